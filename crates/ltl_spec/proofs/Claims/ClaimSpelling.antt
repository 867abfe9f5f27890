-- The tokens of a claim's text, piece by piece.
use Rattle.std.proofs.Common.{◌≡◌, ℕ, suc, ◌+◌, ◌-◌, Bool, true, false, cond, not, ◌&&◌, ◌||◌, inl, inr, List, [], ◌∷◌, ◌++◌, length, map, take_while, Option, Some, None, nat_eq, ◌==◌, refl, sym, ◌∙◌, ap, arith, append_assoc, length-append}
use Rattle.std.specs.Prelude.{if◌then◌else◌, option_map, unwrap_or, flat_map, find, codes}
use Rattle.std.specs.List.{list_all, starts_with}
use Rattle.std.proofs.lemmas.Bool.{false≢true}
use Rattle.std.proofs.lemmas.Bool.Decides.{nat_tests}
use Rattle.ltl_spec.specs.Collections.Sets.{Has}
use Rattle.ltl_spec.specs.Semantics.Word.{Name}
use Rattle.ltl_spec.specs.Formulas.Tokens.{is_blank, is_lower, is_name_byte, same_name}
use Rattle.ltl_spec.specs.Formulas.Names.{is_proposition, is_constant}
use Rattle.ltl_spec.specs.Hoa.HoaToken.{is_digit, is_upper, begins_identifier}
use Rattle.ltl_spec.specs.Claims.ClaimTokens.{ClaimToken, Word, Foreign, claim_words, is_promela_word, is_word_byte, listed_or, comment_rest, first_found, claim_tokens_from, claim_tokens}
use Rattle.ltl_spec.proofs.Collections.CaseLaws.{left_true, right_true}
use Rattle.ltl_spec.proofs.Collections.MemberLaws.{all_Decides, all_weaker}
use Rattle.ltl_spec.proofs.Formulas.NameLaws.{same_exact}
use Rattle.ltl_spec.proofs.Hoa.SpelledLaws.{StopsAt, taken_while, less_one}

-- the text is spelled by these tokens, whatever comes behind it
abbrev pub Spelled : List ℕ → List ClaimToken → Type 0
Spelled text ts = (rest : List ℕ) → claim_tokens (text ++ rest) ≡ ts ++ claim_tokens rest

pub spelled_both : (a b : List ℕ) (s t : List ClaimToken) → Spelled a s → Spelled b t → Spelled (a ++ b) (s ++ t)
spelled_both a b s t f g rest = ap claim_tokens (append_assoc a b rest) ∙ f (b ++ rest) ∙ ap (λ ts. s ++ ts) (g rest) ∙ sym (append_assoc s t (claim_tokens rest))

pub spelled_all : {K L : Type 0} (f : K → List ℕ) (h : K → L) (g : L → List ClaimToken) (xs : List K) → ((x : K) → Has xs x → Spelled (f x) (g (h x))) → Spelled (flat_map f xs) (flat_map g (map h xs))
spelled_all f h g [] e = λ rest. refl
spelled_all f h g (x ∷ xs) e = spelled_both (f x) (flat_map f xs) (g (h x)) (flat_map g (map h xs)) (e x (inl refl)) (spelled_all f h g xs (λ y m. e y (inr m)))

-- what belongs to the token before is skipped
pub skipped : (xs ys : List ℕ) → claim_tokens_from (length xs) (xs ++ ys) ≡ claim_tokens ys
skipped [] ys = refl
skipped (x ∷ xs) ys = skipped xs ys

-- ---- words

-- a name in a claim: a letter or `_`, then letters, digits and `_`, and no word of Promela
pub record IsClaimName (w : Name) : Type 0 where
  pub first : ℕ
  pub rest : List ℕ
  pub spelled : w ≡ first ∷ rest
  pub begins : begins_identifier first ≡ true
  pub bytes : list_all is_word_byte rest ≡ true
  pub free : is_promela_word w ≡ false

begins_digit : Name → Bool
begins_digit [] = false
begins_digit (b ∷ bs) = is_digit b

-- the claim's own words are words of Promela or numbers
abbrev is_taken : Name → Bool
is_taken w = is_promela_word w || begins_digit w

own_words : list_all (λ w. is_taken w.0) claim_words ≡ true
unfolding begins_digit
own_words = refl

other_word : (w v : Name) → is_taken w ≡ false → is_taken v ≡ true → same_name w v ≡ false
other_word w v f t = go (same_name w v) refl
  where
    go : (c : Bool) → same_name w v ≡ c → same_name w v ≡ false
    go false e = e
    go true e = absurd (false≢true (sym f ∙ ap is_taken (same_exact w v e) ∙ t))

none_found : (w : Name) (words : List (List ℕ × ClaimToken)) → is_taken w ≡ false → ((x : List ℕ × ClaimToken) → Has words x → is_taken x.0 ≡ true) → find (λ x. same_name w x.0) words ≡ None
none_found w [] f all = refl
none_found w (x ∷ xs) f all = ap (λ c. cond c (Some x) (find (λ y. same_name w y.0) xs)) (other_word w x.0 f (all x (inl refl))) ∙ none_found w xs f (λ y h. all y (inr h))

letter_no_digit : (b : ℕ) → begins_identifier b ≡ true → is_digit b ≡ false
letter_no_digit b e = grind (arith, nat_tests, e)

-- such a name is no word of the claim's own
name_listed : (w : Name) → IsClaimName w → listed_or (if is_promela_word w then Foreign else Word w) w ≡ Word w
unfolding begins_digit
name_listed w n =
    let digit : begins_digit w ≡ false = ap begins_digit n.spelled ∙ letter_no_digit n.first n.begins in
    let free : is_taken w ≡ false = ap (λ c. c || begins_digit w) n.free ∙ digit in
    let none = none_found w claim_words free ((all_Decides (λ x. is_taken x.0) claim_words).0 own_words) in
    ap (λ c. listed_or (if c then Foreign else Word w) w) n.free ∙ ap (λ (o : Option (List ℕ × ClaimToken)). unwrap_or (option_map (λ x. x.1) o) (Word w)) none

word_first : (b : ℕ) (bs rest : List ℕ) → begins_identifier b ≡ true → list_all is_word_byte bs ≡ true → StopsAt is_word_byte rest
    → first_found b (bs ++ rest) ≡ (listed_or (if is_promela_word (b ∷ bs) then Foreign else Word (b ∷ bs)) (b ∷ bs) ∷ [], length (b ∷ bs))
word_first b bs rest e a s = first ∙ ap (λ w. (listed_or (if is_promela_word w then Foreign else Word w) w ∷ [], length w)) taken
  where
    first : first_found b (bs ++ rest) ≡ (let w = take_while is_word_byte (b ∷ bs ++ rest) in (listed_or (if is_promela_word w then Foreign else Word w) w ∷ [], length w))
    first =
        let blank : is_blank b ≡ false = grind (arith, nat_tests, e) in
        let slash : nat_eq 47 b ≡ false = grind (arith, nat_tests, e) in
        let digit = letter_no_digit b e in
        rw (blank, slash, digit, e) refl

    byte : is_word_byte b ≡ true
    byte = ap (λ c. c || is_digit b) e

    taken : take_while is_word_byte (b ∷ bs ++ rest) ≡ b ∷ bs
    taken = taken_while is_word_byte (b ∷ bs) rest (ap (λ c. c && list_all is_word_byte bs) byte ∙ a) s

-- a name is spelled by itself where no further byte of a word comes behind it
pub name_spelled : (w rest : List ℕ) → IsClaimName w → StopsAt is_word_byte rest → claim_tokens (w ++ rest) ≡ Word w ∷ claim_tokens rest
name_spelled w rest n s =
    ap (λ v. claim_tokens (v ++ rest)) n.spelled
    ∙ ap (λ (f : List ClaimToken × ℕ). f.0 ++ claim_tokens_from (f.1 - 1) (n.rest ++ rest)) (word_first n.first n.rest rest n.begins n.bytes s)
    ∙ ap (λ m. listed_or (if is_promela_word (n.first ∷ n.rest) then Foreign else Word (n.first ∷ n.rest)) (n.first ∷ n.rest) ∷ claim_tokens_from m (n.rest ++ rest)) (less_one (length n.rest))
    ∙ ap (λ ts. listed_or (if is_promela_word (n.first ∷ n.rest) then Foreign else Word (n.first ∷ n.rest)) (n.first ∷ n.rest) ∷ ts) (skipped n.rest rest)
    ∙ ap (λ v. listed_or (if is_promela_word v then Foreign else Word v) v ∷ claim_tokens rest) (sym n.spelled)
    ∙ ap (λ t. t ∷ claim_tokens rest) (name_listed w n)

name_byte_word : (b : ℕ) → is_name_byte b ≡ true → is_word_byte b ≡ true
name_byte_word b e = grind (arith, nat_tests, e)

lower_begins : (b : ℕ) → is_lower b ≡ true → begins_identifier b ≡ true
lower_begins b e = ap (λ c. (c || is_upper b) || b == 95) e

-- a proposition that is no word of Promela is such a name
pub proposition_name : (w : Name) → is_proposition w ≡ true → is_promela_word w ≡ false → IsClaimName w
proposition_name [] p f = absurd (false≢true p)
proposition_name (b ∷ bs) p f =
    let bytes = parts (is_lower b) (list_all is_name_byte bs) (not (is_constant (b ∷ bs))) p in
    record { first = b; rest = bs; spelled = refl; begins = lower_begins b bytes.0; bytes = all_weaker is_name_byte is_word_byte name_byte_word bs bytes.1; free = f }
  where
    parts : (r s t : Bool) → (r && s && t) ≡ true → (r ≡ true) × (s ≡ true)
    parts true true t e = (refl, refl)
    parts true false t e = cc
    parts false s t e = cc

-- ---- comments

abbrev pub no_star : ℕ → Bool
no_star b = not (b == 42)

other_byte : (b : ℕ) → no_star b ≡ true → nat_eq 42 b ≡ false
other_byte b e = grind (arith, nat_tests, e)

comment_closes : (c rest : List ℕ) → list_all no_star c ≡ true → comment_rest (c ++ 42 ∷ 47 ∷ rest) ≡ Some (length c + 2)
comment_closes [] rest e = refl
comment_closes (b ∷ bs) rest e =
    ap (λ t. if t then Some 2 else option_map (λ n. n + 1) (comment_rest (bs ++ 42 ∷ 47 ∷ rest))) (ap (λ c. c && starts_with nat_eq (bs ++ 42 ∷ 47 ∷ rest) (codes "/")) (other_byte b (left_true (no_star b) _ e)))
    ∙ ap (λ o. option_map (λ n. n + 1) o) (comment_closes bs rest (right_true (no_star b) _ e))
    ∙ ap Some (more (length bs))
  where
    more : (n : ℕ) → n + 2 + 1 ≡ suc n + 2
    more n = omega arith

-- a comment without `*` inside is left out
pub comment_spelled : (c : List ℕ) → list_all no_star c ≡ true → Spelled (codes "/*" ++ c ++ codes "*/") []
comment_spelled c e rest =
    let text : List ℕ = c ++ 42 ∷ 47 ∷ rest in
    ap (λ t. claim_tokens (47 ∷ 42 ∷ t)) (append_assoc c (42 ∷ 47 ∷ []) rest)
    ∙ ap (λ (o : Option ℕ). let f : List ClaimToken × ℕ = unwrap_or (option_map (λ n. ([], n + 2)) o) (Foreign ∷ [], 1) in f.0 ++ claim_tokens_from (f.1 - 1) (42 ∷ text)) (comment_closes c rest e)
    ∙ ap (λ n. claim_tokens_from n (42 ∷ text)) (size (length c))
    ∙ ap (λ n. claim_tokens_from n text) (sym (length-append c (42 ∷ 47 ∷ [])))
    ∙ ap (claim_tokens_from (length (c ++ 42 ∷ 47 ∷ []))) (sym (append_assoc c (42 ∷ 47 ∷ []) rest))
    ∙ skipped (c ++ 42 ∷ 47 ∷ []) rest
  where
    size : (n : ℕ) → n + 2 + 2 - 1 ≡ suc (n + 2)
    size n = omega arith
