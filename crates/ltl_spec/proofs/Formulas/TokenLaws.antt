-- The tokens of a text, with no regard to their places.
use Rattle.std.proofs.Common.{◌≡◌, ℕ, zero, suc, ◌+◌, ◌-◌, ◌≤◌, Bool, true, false, cond, ◌&&◌, ◌||◌, Decides, List, [], ◌∷◌, ◌++◌, length, map, drop, take_while, find, Some, if◌then◌else◌, nat_le, nat_eq, ◌==◌, codes, refl, sym, ◌∙◌, ap, subst, arith, leb-true, ne_eqb, drop-cons, ◌<◌}
use Rattle.std.proofs.lemmas.Bool.{false_from_ne_true, false≢true}
use Rattle.std.proofs.lemmas.Slice.Eq.{bytes_eq-Decides}
use Rattle.std.specs.Prelude.{⊤, slice_index}
use Rattle.std.specs.List.{AllByRecursion, starts_with}
use Rattle.std.proofs.lemmas.List.{drop-drop, drop_all}
use Rattle.std.proofs.lemmas.List.Sums.{take_while-cons}
use Rattle.ltl_spec.specs.Collections.Sets.{Has}
use Rattle.ltl_spec.proofs.Collections.SetLaws.{all_at}
use Rattle.ltl_spec.specs.Semantics.Word.{Name}
use Rattle.ltl_spec.specs.Formulas.Tokens.{Token, ConstantWord, NameWord, Unknown, Item, signs, is_blank, is_lower, is_name_byte, same_name, word_token, sign_token, first_token, item_before, items_from, items, tokens}
use Rattle.ltl_spec.proofs.Collections.CaseLaws.{left_true}
pub use Rattle.ltl_spec.specs.Formulas.Names.{IsNameWord}

-- an item's token
abbrev pub token_of : Item → Token
token_of i = i.token

-- nothing comes after a byte at fault
abbrev pub token_before : Token → List Token → List Token
token_before Unknown ts = Unknown ∷ []
token_before t ts = t ∷ ts

-- the tokens of the bytes, of which the first `skip` belong to an earlier token
abbrev pub tokens_from : ℕ → List ℕ → List Token
tokens_from skip [] = []
tokens_from (suc skip) (b ∷ bs) = tokens_from skip bs
tokens_from zero (b ∷ bs) =
    let t = first_token b bs in
    let rest = tokens_from (if is_blank b then 0 else t.1 - 1) bs in
    if is_blank b then rest else token_before t.0 rest

-- the token of an item put before others
before_token : (t : Token) (i j : ℕ) (items : List Item) → map token_of (item_before t i j items) ≡ token_before t (map token_of items)
before_token Unknown i j items = refl
before_token _ i j items = refl

-- an item's place doesn't matter for its token
tokens_of_items : (skip at : ℕ) (bs : List ℕ) → map token_of (items_from skip at bs) ≡ tokens_from skip bs
tokens_of_items zero at [] = refl
tokens_of_items (suc skip) at [] = refl
tokens_of_items (suc skip) at (b ∷ bs) = tokens_of_items skip (at + 1) bs
tokens_of_items zero at (b ∷ bs) =
    let t = first_token b bs in
    elim (is_blank b) as (λ c. map token_of (cond c (items_from (cond c 0 (t.1 - 1)) (at + 1) bs) (item_before t.0 at (at + t.1) (items_from (cond c 0 (t.1 - 1)) (at + 1) bs)))
    ≡ cond c (tokens_from (cond c 0 (t.1 - 1)) bs) (token_before t.0 (tokens_from (cond c 0 (t.1 - 1)) bs))) [
      | true ↦ tokens_of_items 0 (at + 1) bs
      | false ↦ before_token t.0 at (at + t.1) (items_from (t.1 - 1) (at + 1) bs) ∙ ap (token_before t.0) (tokens_of_items (t.1 - 1) (at + 1) bs)
    ]

-- the tokens of a text are those of its bytes
pub tokens_are : (text : List ℕ) → tokens text ≡ tokens_from 0 text
tokens_are text = tokens_of_items 0 0 text

-- words

-- a word ends before these bytes
abbrev pub EndsWord : List ℕ → Type 0
EndsWord [] = ⊤
EndsWord (b ∷ bs) = is_name_byte b ≡ false

-- the bytes of a word are taken up to its end
take_word : (w rest : List ℕ) → AllByRecursion (λ c. is_name_byte c ≡ true) w → EndsWord rest → take_while is_name_byte (w ++ rest) ≡ w
take_word [] [] a e = refl
take_word [] (b ∷ bs) a e = take_while-cons is_name_byte b bs ∙ ap (λ c. cond c (b ∷ take_while is_name_byte bs) []) e
take_word (c ∷ cs) rest a e =
    take_while-cons is_name_byte c (cs ++ rest) ∙ ap (λ b. cond b (c ∷ take_while is_name_byte (cs ++ rest)) []) a.0 ∙ ap (λ l. c ∷ l) (take_word cs rest a.1 e)

-- the bytes of a word after its first are passed over
skip_word : (w rest : List ℕ) → tokens_from (length w) (w ++ rest) ≡ tokens_from 0 rest
skip_word [] rest = refl
skip_word (b ∷ bs) rest = skip_word bs rest

-- a word is no byte at fault
word_before : (w : Name) (ts : List Token) → token_before (word_token w) ts ≡ word_token w ∷ ts
word_before w ts =
    elim (same_name w (codes "true")) as (λ b. let t = cond b (ConstantWord true) (cond (same_name w (codes "false")) (ConstantWord false) (NameWord w)) in token_before t ts ≡ t ∷ ts) [
      | true ↦ refl
      | false ↦ elim (same_name w (codes "false")) as (λ b. let t = cond b (ConstantWord false) (NameWord w) in token_before t ts ≡ t ∷ ts) [ true ↦ refl | false ↦ refl ]
    ]

-- a letter is in a name, and no blank
lower_is_name : (b : ℕ) → is_lower b ≡ true → is_name_byte b ≡ true
lower_is_name b e = ap (λ c. c || (nat_le 48 b && nat_le b 57) || b == 95) e

-- a letter is no blank
lower_not_blank : (b : ℕ) → is_lower b ≡ true → is_blank b ≡ false
lower_not_blank b e =
    let l : 97 ≤ b = leb-true 97 b (left_true (nat_le 97 b) (nat_le b 122) e) in
    no_blank b (ne_eqb b 32 (omega arith)) (ne_eqb b 9 (omega arith)) (ne_eqb b 13 (omega arith)) (ne_eqb b 10 (omega arith))
  where
    no_blank : (c : ℕ) → (c == 32) ≡ false → (c == 9) ≡ false → (c == 13) ≡ false → (c == 10) ≡ false → is_blank c ≡ false
    no_blank c p q r s = λ i. p i || q i || r i || s i

-- what the bytes of a token are to the tokens
pub token_step : (b : ℕ) (bs : List ℕ) (t : Token) (n : ℕ) → is_blank b ≡ false → first_token b bs ≡ (t, suc n) → tokens_from 0 (b ∷ bs) ≡ token_before t (tokens_from n bs)
token_step b bs t n e f =
    let less : suc n - 1 ≡ n = omega arith in
    ap (λ c. cond c (tokens_from (cond c 0 ((first_token b bs).1 - 1)) bs) (token_before (first_token b bs).0 (tokens_from (cond c 0 ((first_token b bs).1 - 1)) bs))) e
    ∙ ap (λ p. token_before p.0 (tokens_from (p.1 - 1) bs)) f ∙ ap (λ k. token_before t (tokens_from k bs)) less

-- a word and what follows it
pub word_tokens : (b : ℕ) (bs rest : List ℕ) → is_lower b ≡ true → AllByRecursion (λ c. is_name_byte c ≡ true) bs → EndsWord rest
    → tokens_from 0 (b ∷ bs ++ rest) ≡ word_token (b ∷ bs) ∷ tokens_from 0 rest
word_tokens b bs rest l a e =
    let w = take_word (b ∷ bs) rest (lower_is_name b l, a) e in
    let t : first_token b (bs ++ rest) ≡ (word_token (b ∷ bs), length (b ∷ bs)) =
    ap (λ c. cond c (word_token (take_while is_name_byte (b ∷ bs ++ rest)), length (take_while is_name_byte (b ∷ bs ++ rest)))
    (sign_token (find (λ s. starts_with nat_eq (b ∷ bs ++ rest) s.0) signs))) l ∙ ap (λ v. (word_token v, length v)) w in
    token_step b (bs ++ rest) (word_token (b ∷ bs)) (length bs) (lower_not_blank b l) t
    ∙ ap (token_before (word_token (b ∷ bs))) (skip_word bs rest) ∙ word_before (b ∷ bs) (tokens_from 0 rest)

-- a name is read as itself
pub name_token : (b : ℕ) (bs : List ℕ) → IsNameWord (b ∷ bs) → word_token (b ∷ bs) ≡ NameWord (b ∷ bs)
name_token b bs w =
    ap (λ c. cond c (ConstantWord true) (cond (same_name (b ∷ bs) (codes "false")) (ConstantWord false) (NameWord (b ∷ bs))))
    (false_from_ne_true _ (λ e. w.2 ((bytes_eq-Decides (b ∷ bs) (codes "true")).0 e)))
    ∙ ap (λ c. cond c (ConstantWord false) (NameWord (b ∷ bs))) (false_from_ne_true _ (λ e. w.3 ((bytes_eq-Decides (b ∷ bs) (codes "false")).0 e)))

-- the items of a text, step by step

-- the bytes of a token are passed over
pub items_skip : (skip at : ℕ) (bs : List ℕ) → items_from skip at bs ≡ items_from 0 (at + skip) (drop skip bs)
items_skip zero at bs = let e : at ≡ at + 0 = omega arith in ap (λ k. items_from 0 k bs) e
items_skip (suc skip) at [] = refl
items_skip (suc skip) at (b ∷ bs) =
    let e : at + 1 + skip ≡ at + suc skip = omega arith in items_skip skip (at + 1) bs ∙ ap (λ k. items_from 0 k (drop skip bs)) e

-- a token makes an item, and what follows begins after its bytes
pub items_token : (at b : ℕ) (bs : List ℕ) (t : Token) (n : ℕ) → is_blank b ≡ false → first_token b bs ≡ (t, suc n)
    → items_from 0 at (b ∷ bs) ≡ item_before t at (at + suc n) (items_from 0 (at + suc n) (drop n bs))
items_token at b bs t n e f =
    let less : suc n - 1 ≡ n = omega arith in
    let to : at + 1 + n ≡ at + suc n = omega arith in
    ap (λ c. cond c (items_from (cond c 0 ((first_token b bs).1 - 1)) (at + 1) bs)
    (item_before (first_token b bs).0 at (at + (first_token b bs).1) (items_from (cond c 0 ((first_token b bs).1 - 1)) (at + 1) bs))) e
    ∙ ap (λ p. item_before p.0 at (at + p.1) (items_from (p.1 - 1) (at + 1) bs)) f
    ∙ ap (λ k. item_before t at (at + suc n) (items_from k (at + 1) bs)) less
    ∙ ap (item_before t at (at + suc n)) (items_skip n (at + 1) bs ∙ ap (λ k. items_from 0 k (drop n bs)) to)

-- the names of a text

-- the bytes of a word are all of a name
taken_bytes : (xs : List ℕ) → AllByRecursion (λ c. is_name_byte c ≡ true) (take_while is_name_byte xs)
taken_bytes [] = tt
taken_bytes (x ∷ xs) =
    subst (AllByRecursion (λ c. is_name_byte c ≡ true)) (sym (take_while-cons is_name_byte x xs))
    (elim (is_name_byte x) as (λ b. is_name_byte x ≡ b → AllByRecursion (λ c. is_name_byte c ≡ true) (cond b (x ∷ take_while is_name_byte xs) [])) [
      | true ↦ λ e. (e, taken_bytes xs)
      | false ↦ λ e. tt
    ] refl)

-- the token is a proper name, if it is a name
abbrev IsProper : Token → Type 0
IsProper (NameWord n) = IsNameWord n
IsProper _ = ⊤

-- a word is a constant or a proper name
word_proper : (b : ℕ) (bs : List ℕ) → is_lower b ≡ true → AllByRecursion (λ c. is_name_byte c ≡ true) bs → IsProper (word_token (b ∷ bs))
word_proper b bs l a =
    elim (same_name (b ∷ bs) (codes "true")) as (λ c. Decides c (b ∷ bs ≡ codes "true")
    → IsProper (cond c (ConstantWord true) (cond (same_name (b ∷ bs) (codes "false")) (ConstantWord false) (NameWord (b ∷ bs))))) [
      | true ↦ λ d. tt
      | false ↦ λ d. elim (same_name (b ∷ bs) (codes "false")) as (λ c. Decides c (b ∷ bs ≡ codes "false") → IsProper (cond c (ConstantWord false) (NameWord (b ∷ bs)))) [
        | true ↦ λ f. tt
        | false ↦ λ f. (l, a, (λ e. false≢true (d.1 e)), λ e. false≢true (f.1 e))
      ] (bytes_eq-Decides (b ∷ bs) (codes "false"))
    ] (bytes_eq-Decides (b ∷ bs) (codes "true"))

-- no sign is a name
sign_proper : (p : List ℕ × Token → Bool) (ss : List (List ℕ × Token)) → AllByRecursion (λ s. IsProper s.1) ss → IsProper (sign_token (find p ss)).0
sign_proper p [] a = tt
sign_proper p (s ∷ ss) a = elim (p s) as (λ b. IsProper (sign_token (cond b (Some s) (find p ss))).0) [ true ↦ a.0 | false ↦ sign_proper p ss a.1 ]

-- no sign is a name
signs_proper : AllByRecursion (λ s. IsProper s.1) signs
signs_proper = search

-- a first token is proper
first_proper : (b : ℕ) (bs : List ℕ) → IsProper (first_token b bs).0
first_proper b bs =
    elim (is_lower b) as (λ l. is_lower b ≡ l
    → IsProper (cond l (word_token (take_while is_name_byte (b ∷ bs)), length (take_while is_name_byte (b ∷ bs))) (sign_token (find (λ s. starts_with nat_eq (b ∷ bs) s.0) signs))).0) [
      | true ↦ λ l. subst (λ w. IsProper (word_token w)) (sym (word_is l)) (word_proper b (take_while is_name_byte bs) l (taken_bytes bs))
      | false ↦ λ l. sign_proper (λ s. starts_with nat_eq (b ∷ bs) s.0) signs signs_proper
    ] refl
  where
    word_is : is_lower b ≡ true → take_while is_name_byte (b ∷ bs) ≡ b ∷ take_while is_name_byte bs
    word_is l = take_while-cons is_name_byte b bs ∙ ap (λ c. cond c (b ∷ take_while is_name_byte bs) []) (lower_is_name b l)

-- proper tokens in a row
before_proper : (t : Token) (ts : List Token) → IsProper t → AllByRecursion IsProper ts → AllByRecursion IsProper (token_before t ts)
before_proper Unknown ts p a = (tt, tt)
before_proper (NameWord n) ts p a = (p, a)
before_proper (ConstantWord b) ts p a = (p, a)
before_proper _ ts p a = (p, a)

-- all tokens of bytes are proper
proper_tokens : (skip : ℕ) (bs : List ℕ) → AllByRecursion IsProper (tokens_from skip bs)
proper_tokens zero [] = tt
proper_tokens (suc skip) [] = tt
proper_tokens (suc skip) (b ∷ bs) = proper_tokens skip bs
proper_tokens zero (b ∷ bs) =
    let t = first_token b bs in
    elim (is_blank b) as (λ c. AllByRecursion IsProper (cond c (tokens_from (cond c 0 (t.1 - 1)) bs) (token_before t.0 (tokens_from (cond c 0 (t.1 - 1)) bs)))) [
      | true ↦ proper_tokens 0 bs
      | false ↦ before_proper t.0 (tokens_from (t.1 - 1) bs) (first_proper b bs) (proper_tokens (t.1 - 1) bs)
    ]

-- each name of a text is proper
pub text_names : (text : List ℕ) (n : Name) → Has (tokens text) (NameWord n) → IsNameWord n
text_names text n h = all_at IsProper (tokens_from 0 text) (NameWord n) (proper_tokens 0 text) (subst (λ l. Has l (NameWord n)) (tokens_are text) h)

-- the length of a token

-- a sign has a byte
sign_length : (p : List ℕ × Token → Bool) (ss : List (List ℕ × Token)) → AllByRecursion (λ s. 1 ≤ length s.0) ss → 1 ≤ (sign_token (find p ss)).1
sign_length p [] a = omega arith
sign_length p (s ∷ ss) a = elim (p s) as (λ b. 1 ≤ (sign_token (cond b (Some s) (find p ss))).1) [ true ↦ a.0 | false ↦ sign_length p ss a.1 ]

-- a token has a byte
pub first_length : (b : ℕ) (bs : List ℕ) → 1 ≤ (first_token b bs).1
first_length b bs =
    elim (is_lower b) as (λ l. is_lower b ≡ l
    → 1 ≤ (cond l (word_token (take_while is_name_byte (b ∷ bs)), length (take_while is_name_byte (b ∷ bs))) (sign_token (find (λ s. starts_with nat_eq (b ∷ bs) s.0) signs))).1) [
      | true ↦ λ l. subst (λ w. 1 ≤ length w) (sym (word_is l)) (omega arith)
      | false ↦ λ l. sign_length (λ s. starts_with nat_eq (b ∷ bs) s.0) signs (search arith)
    ] refl
  where
    word_is : is_lower b ≡ true → take_while is_name_byte (b ∷ bs) ≡ b ∷ take_while is_name_byte bs
    word_is l = take_while-cons is_name_byte b bs ∙ ap (λ c. cond c (b ∷ take_while is_name_byte bs) []) (lower_is_name b l)

-- a loop over the text's bytes

-- the items from a place on
abbrev pub items_at : List ℕ → ℕ → List Item
items_at text at = items_from 0 at (drop at text)

-- at a token it goes as many bytes on as the token has
pub loop_token : (text : List ℕ) (at : ℕ) (t : Token) (n : ℕ) → at < length text → is_blank (slice_index text at) ≡ false
    → first_token (slice_index text at) (drop (at + 1) text) ≡ (t, n) → items_at text at ≡ item_before t at (at + n) (items_at text (at + n))
loop_token text at t n l e f =
    let next : suc at ≡ at + 1 = omega arith in
    let some : 1 ≤ n = subst (λ p. 1 ≤ p.1) f (first_length (slice_index text at) (drop (at + 1) text)) in
    let more : n ≡ suc (n - 1) = omega arith in
    let to : at + 1 + (n - 1) ≡ at + n = omega arith in
    ap (items_from 0 at) (drop-cons text at 0 l ∙ ap (λ k. slice_index text at ∷ drop k text) next)
    ∙ items_token at (slice_index text at) (drop (at + 1) text) t (n - 1) e (f ∙ ap (λ k. (t, k)) more)
    ∙ ap (λ k. item_before t at (at + k) (items_from 0 (at + k) (drop (n - 1) (drop (at + 1) text)))) (sym more)
    ∙ ap (λ l. item_before t at (at + n) (items_from 0 (at + n) l)) (drop-drop (n - 1) (at + 1) text ∙ ap (λ k. drop k text) to)

-- at the end nothing is left
pub loop_end : (text : List ℕ) (at : ℕ) → length text ≤ at → items_at text at ≡ []
loop_end text at l = ap (items_from 0 at) (drop_all at text l)
