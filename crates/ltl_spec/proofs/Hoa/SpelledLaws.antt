-- Numbers and strings at the beginning of an automaton's text, and the tokens of a text that was printed.
use Rattle.std.proofs.Common.{◌≡◌, ℕ, zero, suc, ◌+◌, ◌-◌, ◌*◌, ◌/◌, ◌%◌, ◌^◌, ◌<◌, ◌≤◌, Bool, true, false, cond, not, ◌&&◌, inl, inr, List, [], ◌∷◌, ◌++◌, length, map, take_while, Option, Some, None, nat_eq, ◌==◌, refl, sym, ◌∙◌, ap, arith, append_assoc}
use Rattle.std.specs.Prelude.{⊤, if◌then◌else◌, option_map, flat_map, decimal}
use Rattle.std.specs.List.{list_all}
use Rattle.std.proofs.lemmas.Bool.Decides.{nat_tests}
use Rattle.std.proofs.lemmas.Fmt.{decimal_by_steps, decimal_digit}
use Rattle.std.proofs.lemmas.List.Sums.{take_while-cons, fold-append}
use Rattle.ltl_spec.specs.Collections.Sets.{Has}
use Rattle.ltl_spec.specs.Formulas.Tokens.{is_blank}
use Rattle.ltl_spec.specs.Automata.HoaText.{quoted}
use Rattle.ltl_spec.specs.Hoa.HoaToken.{HoaToken, StringToken, Int, Unknown, UnclosedString, UnclosedComment, HoaItem, is_digit, number_of, string_rest, string_found, found_first, hoa_item_before, hoa_items_from, hoa_tokens}
use Rattle.ltl_spec.proofs.Collections.CaseLaws.{left_true, right_true}

-- the items behind what a text begins with
pub first_is : (l b : ℕ) (bs : List ℕ) → (b == 10) ≡ false
    → hoa_items_from 0 l (b ∷ bs) ≡ hoa_item_before (found_first b bs).0 l (hoa_items_from ((found_first b bs).1 - 1) l bs)
first_is l b bs e = ap (λ c. hoa_item_before (found_first b bs).0 l (hoa_items_from ((found_first b bs).1 - 1) (if c then l + 1 else l) bs)) e

-- bytes without LF are skipped
pub skipped : (xs ys : List ℕ) (l : ℕ) → list_all (λ b. not (b == 10)) xs ≡ true → hoa_items_from (length xs) l (xs ++ ys) ≡ hoa_items_from 0 l ys
skipped [] ys l e = refl
skipped (x ∷ xs) ys l e =
    ap (λ c. hoa_items_from (length xs) (if c then l + 1 else l) (xs ++ ys)) (negated (x == 10) (left_true (not (x == 10)) _ e))
    ∙ skipped xs ys l (right_true (not (x == 10)) _ e)
  where
    negated : (c : Bool) → not c ≡ true → c ≡ false
    negated true q = sym q
    negated false q = refl

-- the list begins with no byte that passes
abbrev pub StopsAt : (ℕ → Bool) → List ℕ → Type 0
StopsAt p [] = ⊤
StopsAt p (b ∷ bs) = p b ≡ false

pub taken_while : (p : ℕ → Bool) (xs ys : List ℕ) → list_all p xs ≡ true → StopsAt p ys → take_while p (xs ++ ys) ≡ xs
taken_while p [] [] a s = refl
taken_while p [] (y ∷ ys) a s = take_while-cons p y ys ∙ ap (λ c. cond c (y ∷ take_while p ys) []) s
taken_while p (x ∷ xs) ys a s =
    take_while-cons p x (xs ++ ys) ∙ ap (λ c. cond c (x ∷ take_while p (xs ++ ys)) []) (left_true (p x) _ a)
    ∙ ap (λ zs. x ∷ zs) (taken_while p xs ys (right_true (p x) _ a) s)

pub less_one : (n : ℕ) → suc n - 1 ≡ n
less_one n = omega arith

pub no_line_digit : (b : ℕ) → is_digit b ≡ true → not (b == 10) ≡ true
no_line_digit b e = grind (arith, nat_tests, e)

-- a class of bytes within another
pub within : (p q : ℕ → Bool) → ((b : ℕ) → p b ≡ true → q b ≡ true) → (xs : List ℕ) → list_all p xs ≡ true → list_all q xs ≡ true
within p q w [] e = refl
within p q w (x ∷ xs) e = ap (λ c. c && list_all q xs) (w x (left_true (p x) _ e)) ∙ within p q w xs (right_true (p x) _ e)

-- a number
pub number_ends : (l b : ℕ) (bs rest : List ℕ) → is_digit b ≡ true → (b == 48) ≡ false → list_all is_digit bs ≡ true → StopsAt is_digit rest
    → hoa_items_from 0 l (b ∷ bs ++ rest) ≡ record { token = Int (number_of (b ∷ bs)); line = l } ∷ hoa_items_from 0 l rest
number_ends l b bs rest e z a s =
    let ten : (b == 10) ≡ false = grind (arith, nat_tests, e) in
    first_is l b (bs ++ rest) ten ∙ ap (λ (f : Option HoaToken × ℕ). hoa_item_before f.0 l (hoa_items_from (f.1 - 1) l (bs ++ rest))) found
    ∙ ap (λ items. record { token = Int (number_of (b ∷ bs)); line = l } ∷ items) (
    ap (λ n. hoa_items_from n l (bs ++ rest)) (less_one (length bs)) ∙ skipped bs rest l (within _ _ no_line_digit bs a))
  where
    first : found_first b (bs ++ rest) ≡ (Some (Int (number_of (take_while is_digit (b ∷ bs ++ rest)))), length (take_while is_digit (b ∷ bs ++ rest)))
    first =
        let blank : is_blank b ≡ false = grind (arith, nat_tests, e) in
        let slash : nat_eq 47 b ≡ false = grind (arith, nat_tests, e) in
        let quote : (b == 34) ≡ false = grind (arith, nat_tests, e) in
        rw (blank, slash, quote, z, e) refl

    found : found_first b (bs ++ rest) ≡ (Some (Int (number_of (b ∷ bs))), length (b ∷ bs))
    found = first ∙ ap (λ w. (Some (Int (number_of w)), length w)) (taken_while is_digit (b ∷ bs) rest (ap (λ c. c && list_all is_digit bs) e ∙ a) s)

-- ---- strings

-- behind a string's content so far, or with no end
abbrev string_items : ℕ → ℕ → List ℕ → Option (List ℕ × ℕ) → List ℕ → List HoaItem
string_items start line text (Some s) rest = record { token = StringToken (text ++ s.0); line = start } ∷ hoa_items_from s.1 line rest
string_items start line text None rest = record { token = UnclosedString; line = start } ∷ []

pub succ : (n : ℕ) → n + 1 ≡ suc n
succ n = omega arith

pub string_first : (l : ℕ) (rest : List ℕ) → hoa_items_from 0 l (34 ∷ rest) ≡ string_items l l [] (string_rest false rest) rest
string_first l rest = opened (string_rest false rest)
  where
    opened : (o : Option (List ℕ × ℕ)) → (let f = string_found o in hoa_item_before f.0 l (hoa_items_from (f.1 - 1) l rest)) ≡ string_items l l [] o rest
    opened (Some s) = ap (λ k. record { token = StringToken s.0; line = l } ∷ hoa_items_from k l rest) (omega arith)
    opened None = refl

-- a byte of the content
pub string_adds : (start l b : ℕ) (text rest : List ℕ) (o : Option (List ℕ × ℕ))
    → string_items start l text (option_map (λ r. (b ∷ r.0, r.1 + 1)) o) (b ∷ rest) ≡ string_items start (if b == 10 then l + 1 else l) (text ++ b ∷ []) o rest
string_adds start l b text rest (Some s) =
    ap (λ k. record { token = StringToken (text ++ b ∷ s.0); line = start } ∷ hoa_items_from k l (b ∷ rest)) (succ s.1)
    ∙ ap (λ t. record { token = StringToken t; line = start } ∷ hoa_items_from s.1 (if b == 10 then l + 1 else l) rest) (sym (append_assoc text (b ∷ []) s.0))
string_adds start l b text rest None = refl

pub string_goes_on : (start l b : ℕ) (text rest : List ℕ) → (b == 34) ≡ false → (b == 92) ≡ false
    → string_items start l text (string_rest false (b ∷ rest)) (b ∷ rest) ≡ string_items start (if b == 10 then l + 1 else l) (text ++ b ∷ []) (string_rest false rest) rest
string_goes_on start l b text rest e f =
    let one : string_rest false (b ∷ rest) ≡ option_map (λ r. (b ∷ r.0, r.1 + 1)) (string_rest false rest) = rw (e, f) refl in
    ap (λ o. string_items start l text o (b ∷ rest)) one ∙ string_adds start l b text rest (string_rest false rest)

-- ---- pieces of a text

abbrev pub toks : List HoaItem → List HoaToken
toks items = map (λ i. i.token) items

pub before_line : (o : Option HoaToken) (l m : ℕ) (xs ys : List HoaItem) → toks xs ≡ toks ys → toks (hoa_item_before o l xs) ≡ toks (hoa_item_before o m ys)
before_line None l m xs ys e = e
before_line (Some Unknown) l m xs ys e = refl
before_line (Some UnclosedString) l m xs ys e = refl
before_line (Some UnclosedComment) l m xs ys e = refl
before_line (Some t) l m xs ys e = ap (λ ts. t ∷ ts) e

pub same_tokens : (skip l m : ℕ) (text : List ℕ) → toks (hoa_items_from skip l text) ≡ toks (hoa_items_from skip m text)
same_tokens skip l m [] = refl
same_tokens (suc skip) l m (b ∷ bs) = same_tokens skip (if b == 10 then l + 1 else l) (if b == 10 then m + 1 else m) bs
same_tokens zero l m (b ∷ bs) =
    before_line (found_first b bs).0 l m _ _ (same_tokens ((found_first b bs).1 - 1) (if b == 10 then l + 1 else l) (if b == 10 then m + 1 else m) bs)

-- the line plays no part
pub any_line : (l : ℕ) (text : List ℕ) → toks (hoa_items_from 0 l text) ≡ hoa_tokens text
any_line l text = same_tokens 0 l 1 text

-- the text is spelled by these tokens, whatever comes behind it
abbrev pub Spells : List ℕ → List HoaToken → Type 0
Spells text ts = (rest : List ℕ) → hoa_tokens (text ++ rest) ≡ ts ++ hoa_tokens rest

pub spells_both : (a b : List ℕ) (s t : List HoaToken) → Spells a s → Spells b t → Spells (a ++ b) (s ++ t)
spells_both a b s t f g rest = ap hoa_tokens (append_assoc a b rest) ∙ f (b ++ rest) ∙ ap (λ ts. s ++ ts) (g rest) ∙ sym (append_assoc s t (hoa_tokens rest))

pub spells_all : {K L : Type 0} (f : K → List ℕ) (h : K → L) (g : L → List HoaToken) (xs : List K) → ((x : K) → Has xs x → Spells (f x) (g (h x))) → Spells (flat_map f xs) (flat_map g (map h xs))
spells_all f h g [] e = λ rest. refl
spells_all f h g (x ∷ xs) e = spells_both (f x) (flat_map f xs) (g (h x)) (flat_map g (map h xs)) (e x (inl refl)) (spells_all f h g xs (λ y m. e y (inr m)))

-- ---- numbers

-- how a number is written
pub record IsWritten (n : ℕ) (ds : List ℕ) : Type 0 where
  pub first : ℕ
  pub rest : List ℕ
  pub spelled : ds ≡ first ∷ rest
  pub digit : is_digit first ≡ true
  pub digits : list_all is_digit rest ≡ true
  pub value : number_of ds ≡ n
  pub leads : 0 < n → (first == 48) ≡ false

pub decimal_written : (n : ℕ) → n < 2 ^ 64 → IsWritten n (decimal n)
decimal_written = decimal_by_steps IsWritten one more
  where
    one : (n : ℕ) → n < 10 → IsWritten n ((48 + n) ∷ [])
    one n l = record {
      first = 48 + n;
      rest = [];
      spelled = refl;
      digit = grind (arith, nat_tests, l);
      digits = refl;
      value = omega arith;
      leads = λ p. grind (arith, nat_tests, p);
    }

    all_more : (xs : List ℕ) (b : ℕ) → list_all is_digit xs ≡ true → is_digit b ≡ true → list_all is_digit (xs ++ b ∷ []) ≡ true
    all_more [] b e f = ap (λ c. c && true) f
    all_more (x ∷ xs) b e f = ap (λ c. c && list_all is_digit (xs ++ b ∷ [])) (left_true (is_digit x) _ e) ∙ all_more xs b (right_true (is_digit x) _ e) f

    more : (n : ℕ) (ds : List ℕ) → 10 ≤ n → IsWritten (n / 10) ds → IsWritten n (ds ++ ((48 + n % 10) ∷ []))
    more n ds l w = record {
      first = w.first;
      rest = w.rest ++ (48 + n % 10) ∷ [];
      spelled = ap (λ xs. xs ++ (48 + n % 10) ∷ []) w.spelled;
      digit = w.digit;
      digits = all_more w.rest (48 + n % 10) w.digits (let low : n % 10 < 10 = omega arith in grind (arith, nat_tests, low));
      value = fold-append (λ m d. 10 * m + (d - 48)) 0 ds ((48 + n % 10) ∷ []) ∙ (omega (arith, w.value));
      leads = λ p. w.leads (omega (arith, l));
    }

-- a number is spelled by itself where no digit comes behind it
pub number_spelled : (n : ℕ) (rest : List ℕ) → n < 2 ^ 64 → StopsAt is_digit rest → hoa_tokens (decimal n ++ rest) ≡ Int n ∷ hoa_tokens rest
number_spelled zero rest l s = ap (λ ds. hoa_tokens (ds ++ rest)) (decimal_digit 0 (omega arith))
number_spelled (suc n) rest l s =
    let w = decimal_written (suc n) l in
    ap (λ ds. hoa_tokens (ds ++ rest)) w.spelled ∙ ap toks (number_ends 1 w.first w.rest rest w.digit (w.leads (omega arith)) w.digits s)
    ∙ ap (λ m. Int m ∷ hoa_tokens rest) (ap number_of (sym w.spelled) ∙ w.value)

-- an end of a line behind a number
pub number_line : (n : ℕ) → n < 2 ^ 64 → Spells (decimal n ++ 10 ∷ []) (Int n ∷ [])
number_line n l rest = ap hoa_tokens (append_assoc (decimal n) (10 ∷ []) rest) ∙ number_spelled n (10 ∷ rest) l refl ∙ ap (λ ts. Int n ∷ ts) (any_line 2 rest)

-- ---- strings

-- a byte that stands for itself in a string
abbrev pub is_clean : ℕ → Bool
is_clean b = not (b == 34) && not (b == 92)

pub no : (c : Bool) → not c ≡ true → c ≡ false
no true e = sym e
no false e = refl

pub string_inside : (start l : ℕ) (done text rest : List ℕ) → list_all is_clean text ≡ true
    → toks (string_items start l done (string_rest false (text ++ 34 ∷ rest)) (text ++ 34 ∷ rest)) ≡ StringToken (done ++ text) ∷ hoa_tokens rest
string_inside start l done [] rest e = ap (λ ts. StringToken (done ++ []) ∷ ts) (any_line l rest)
string_inside start l done (b ∷ text) rest e =
    let c = left_true (is_clean b) _ e in
    ap toks (string_goes_on start l b done (text ++ 34 ∷ rest) (no (b == 34) (left_true _ _ c)) (no (b == 92) (right_true (not (b == 34)) _ c)))
    ∙ string_inside start (if b == 10 then l + 1 else l) (done ++ b ∷ []) text rest (right_true (is_clean b) _ e)
    ∙ ap (λ t. StringToken t ∷ hoa_tokens rest) (append_assoc done (b ∷ []) text)

pub string_spelled : (text : List ℕ) → list_all is_clean text ≡ true → Spells (quoted text) (StringToken text ∷ [])
string_spelled text e rest =
    ap (λ t. hoa_tokens (34 ∷ t)) (append_assoc text (34 ∷ []) rest) ∙ ap toks (string_first 1 (text ++ 34 ∷ rest)) ∙ string_inside 1 1 [] text rest e
