-- The items with which a text begins.
use Rattle.std.proofs.Common.{◌≡◌, ℕ, suc, ◌+◌, ◌-◌, Bool, true, false, not, ◌&&◌, ◌||◌, ◌⊎◌, inl, inr, List, [], ◌∷◌, ◌++◌, length, take_while, Option, Some, None, nat_eq, ◌==◌, codes, refl, sym, ◌∙◌, ap, arith, append_assoc}
use Rattle.std.specs.Prelude.{⊤, if◌then◌else◌, option_map}
use Rattle.std.specs.List.{starts_with, list_all}
use Rattle.std.proofs.lemmas.Bool.Decides.{nat_tests}
use Rattle.ltl_spec.specs.Formulas.Tokens.{is_blank, same_name}
use Rattle.ltl_spec.specs.Hoa.HoaToken.{HoaToken, StringToken, Identifier, Header, Body, End, Abort, Unknown, is_digit, begins_identifier, is_identifier_byte, string_rest, string_found, comment_rest, comment_found, word_found, sign_found, found_first, hoa_item_before, hoa_items_from}
use Rattle.ltl_hoa.specs.Resuming.{comment_items, string_items, has_mark}
use Rattle.ltl_spec.proofs.Collections.CaseLaws.{left_true, right_true, false_is_true}
use Rattle.ltl_spec.proofs.Hoa.SpelledLaws.{first_is, skipped, StopsAt, taken_while, less_one, within, succ}

-- a blank is left out
pub blank_first : (l b : ℕ) (bs : List ℕ) → is_blank b ≡ true → hoa_items_from 0 l (b ∷ bs) ≡ hoa_items_from 0 (if b == 10 then l + 1 else l) bs
blank_first l b bs e =
    ap (λ (f : Option HoaToken × ℕ). hoa_item_before f.0 l (hoa_items_from (f.1 - 1) (if b == 10 then l + 1 else l) bs)) (found_blank e)
  where
    found_blank : is_blank b ≡ true → found_first b bs ≡ (None, 1)
    found_blank q = rw q refl

-- ---- identifiers

identifier_first : (b : ℕ) (bs : List ℕ) → begins_identifier b ≡ true
    → found_first b bs ≡ word_found (take_while is_identifier_byte (b ∷ bs)) (starts_with nat_eq (b ∷ bs) (take_while is_identifier_byte (b ∷ bs) ++ codes ":"))
identifier_first b bs e =
    let blank : is_blank b ≡ false = grind (arith, nat_tests, e) in
    let slash : nat_eq 47 b ≡ false = grind (arith, nat_tests, e) in
    let quote : (b == 34) ≡ false = grind (arith, nat_tests, e) in
    let naught : (b == 48) ≡ false = grind (arith, nat_tests, e) in
    let digit : is_digit b ≡ false = grind (arith, nat_tests, e) in
    rw (blank, slash, quote, naught, digit, e) refl

pub no_line : (b : ℕ) → is_identifier_byte b ≡ true → not (b == 10) ≡ true
no_line b e = grind (arith, nat_tests, e)

begins_goes : (b : ℕ) → begins_identifier b ≡ true → is_identifier_byte b ≡ true
begins_goes b e = ap (λ c. c || is_digit b || b == 45) e

-- what an identifier is followed by
abbrev pub EndsWord : List ℕ → Type 0
EndsWord [] = ⊤
EndsWord (b ∷ bs) = (is_identifier_byte b || b == 58) ≡ false

pub stops_word : (rest : List ℕ) → EndsWord rest → StopsAt is_identifier_byte rest
stops_word [] e = tt
stops_word (b ∷ bs) e = left_false (is_identifier_byte b) (b == 58) e
  where
    left_false : (s t : Bool) → (s || t) ≡ false → s ≡ false
    left_false true t q = q
    left_false false t q = refl

colon_behind : (w rest : List ℕ) → starts_with nat_eq (w ++ rest) (w ++ codes ":") ≡ starts_with nat_eq rest (codes ":")
colon_behind [] rest = refl
colon_behind (x ∷ xs) rest = ap (λ c. c && starts_with nat_eq (xs ++ rest) (xs ++ codes ":")) (same x) ∙ colon_behind xs rest
  where
    same : (n : ℕ) → nat_eq n n ≡ true
    same n = grind (arith, nat_tests)

no_colon : (rest : List ℕ) → EndsWord rest → starts_with nat_eq rest (codes ":") ≡ false
no_colon [] e = refl
no_colon (b ∷ bs) e = let d : nat_eq 58 b ≡ false = grind (arith, nat_tests, e) in ap (λ c. c && true) d

found_word : (b : ℕ) (bs rest : List ℕ) → begins_identifier b ≡ true → list_all is_identifier_byte bs ≡ true → StopsAt is_identifier_byte rest
    → found_first b (bs ++ rest) ≡ word_found (b ∷ bs) (starts_with nat_eq rest (codes ":"))
found_word b bs rest e a s =
    let w = taken_while is_identifier_byte (b ∷ bs) rest (ap (λ c. c && list_all is_identifier_byte bs) (begins_goes b e) ∙ a) s in
    identifier_first b (bs ++ rest) e
    ∙ ap (λ v. word_found v (starts_with nat_eq (b ∷ bs ++ rest) (v ++ codes ":"))) w
    ∙ ap (word_found (b ∷ bs)) (colon_behind (b ∷ bs) rest)

-- an identifier
pub word_ends : (l b : ℕ) (bs rest : List ℕ) → begins_identifier b ≡ true → list_all is_identifier_byte bs ≡ true → EndsWord rest
    → hoa_items_from 0 l (b ∷ bs ++ rest) ≡ record { token = Identifier (b ∷ bs); line = l } ∷ hoa_items_from 0 l rest
word_ends l b bs rest e a s =
    let ten : (b == 10) ≡ false = grind (arith, nat_tests, e) in
    let found = found_word b bs rest e a (stops_word rest s) ∙ ap (word_found (b ∷ bs)) (no_colon rest s) in
    first_is l b (bs ++ rest) ten ∙ ap (λ (f : Option HoaToken × ℕ). hoa_item_before f.0 l (hoa_items_from (f.1 - 1) l (bs ++ rest))) found
    ∙ ap (λ items. record { token = Identifier (b ∷ bs); line = l } ∷ items) (
    ap (λ n. hoa_items_from n l (bs ++ rest)) (less_one (length bs)) ∙ skipped bs rest l (within _ _ no_line bs a))

-- a header's name
pub word_named : (l b : ℕ) (bs rest : List ℕ) → begins_identifier b ≡ true → list_all is_identifier_byte bs ≡ true
    → hoa_items_from 0 l (b ∷ bs ++ 58 ∷ rest) ≡ record { token = Header (b ∷ bs); line = l } ∷ hoa_items_from 0 l rest
word_named l b bs rest e a =
    let ten : (b == 10) ≡ false = grind (arith, nat_tests, e) in
    let found = found_word b bs (58 ∷ rest) e a refl in
    first_is l b (bs ++ 58 ∷ rest) ten ∙ ap (λ (f : Option HoaToken × ℕ). hoa_item_before f.0 l (hoa_items_from (f.1 - 1) l (bs ++ 58 ∷ rest))) found
    ∙ ap (λ items. record { token = Header (b ∷ bs); line = l } ∷ items) (
    ap (λ n. hoa_items_from n l (bs ++ 58 ∷ rest)) (count (length bs)) ∙ behind bs (within _ _ no_line bs a))
  where
    count : (n : ℕ) → suc n + 1 - 1 ≡ suc n
    count n = omega arith

    behind : (xs : List ℕ) → list_all (λ c. not (c == 10)) xs ≡ true → hoa_items_from (suc (length xs)) l (xs ++ 58 ∷ rest) ≡ hoa_items_from 0 l rest
    behind [] q = refl
    behind (x ∷ xs) q =
        ap (λ c. hoa_items_from (suc (length xs)) (if c then l + 1 else l) (xs ++ 58 ∷ rest)) (negated (x == 10) (left_true (not (x == 10)) _ q))
        ∙ behind xs (right_true (not (x == 10)) _ q)
      where
        negated : (c : Bool) → not c ≡ true → c ≡ false
        negated true p = sym p
        negated false p = refl

-- ---- numbers

-- ---- comments

pub comment_first : (l : ℕ) (rest : List ℕ) → hoa_items_from 0 l (47 ∷ 42 ∷ rest) ≡ comment_items l l (comment_rest 0 1 rest) rest
comment_first l rest = opened (comment_rest 0 1 rest)
  where
    opened : (o : Option ℕ)
        → (let f = comment_found (option_map (λ n. n + 1) (option_map (λ n. n + 1) o)) in hoa_item_before f.0 l (hoa_items_from (f.1 - 1) l (42 ∷ rest))) ≡ comment_items l l o rest
    opened (Some n) = ap (λ k. hoa_items_from k l (42 ∷ rest)) (two n)
      where
        two : (k : ℕ) → k + 1 + 1 - 1 ≡ suc k
        two k = omega arith
    opened None = refl

-- one byte more
pub comment_byte : (start l b : ℕ) (o : Option ℕ) (rest : List ℕ) → comment_items start l (option_map (λ n. n + 1) o) (b ∷ rest) ≡ comment_items start (if b == 10 then l + 1 else l) o rest
comment_byte start l b (Some n) rest = ap (λ k. hoa_items_from k l (b ∷ rest)) (succ n)
comment_byte start l b None rest = refl

plain_byte : (depth b : ℕ) (rest : List ℕ) → (b == 47) ≡ false → (b == 42) ≡ false → comment_rest 0 depth (b ∷ rest) ≡ option_map (λ n. n + 1) (comment_rest 0 depth rest)
plain_byte depth b rest e f =
    let slash : nat_eq 47 b ≡ false = grind (arith, nat_tests, e) in
    let star : nat_eq 42 b ≡ false = grind (arith, nat_tests, f) in
    rw (slash, star) refl

pub comment_plain : (start l depth b : ℕ) (rest : List ℕ) → (b == 47) ≡ false → (b == 42) ≡ false
    → comment_items start l (comment_rest 0 depth (b ∷ rest)) (b ∷ rest) ≡ comment_items start (if b == 10 then l + 1 else l) (comment_rest 0 depth rest) rest
comment_plain start l depth b rest e f = ap (λ o. comment_items start l o (b ∷ rest)) (plain_byte depth b rest e f) ∙ comment_byte start l b (comment_rest 0 depth rest) rest

-- one byte, by what begins with it
comment_step : Bool → Bool → ℕ → List ℕ → Option ℕ
comment_step opens closes depth bs =
    let rest = comment_rest (if opens || closes then 1 else 0) (if opens then depth + 1 else if closes then depth - 1 else depth) bs in
    if closes && depth == 1 then Some 2 else option_map (λ n. n + 1) rest

step_is : (depth b : ℕ) (bs : List ℕ) → comment_rest 0 depth (b ∷ bs) ≡ comment_step (starts_with nat_eq (b ∷ bs) (codes "/*")) (starts_with nat_eq (b ∷ bs) (codes "*/")) depth bs
unfolding comment_step
step_is depth b bs = refl

step_plain : (depth : ℕ) (bs : List ℕ) → comment_step false false depth bs ≡ option_map (λ n. n + 1) (comment_rest 0 depth bs)
unfolding comment_step
step_plain depth bs = refl

-- a slash that opens nothing
pub slash_plain : (start l depth b : ℕ) (rest : List ℕ) → (b == 42) ≡ false
    → comment_items start l (comment_rest 0 depth (47 ∷ b ∷ rest)) (47 ∷ b ∷ rest) ≡ comment_items start l (comment_rest 0 depth (b ∷ rest)) (b ∷ rest)
slash_plain start l depth b rest e =
    let star : nat_eq 42 b ≡ false = grind (arith, nat_tests, e) in
    let one : comment_rest 0 depth (47 ∷ b ∷ rest) ≡ option_map (λ n. n + 1) (comment_rest 0 depth (b ∷ rest)) =
    step_is depth 47 (b ∷ rest) ∙ ap (λ c. comment_step (c && true) false depth (b ∷ rest)) star ∙ step_plain depth (b ∷ rest) in
    ap (λ o. comment_items start l o (47 ∷ b ∷ rest)) one ∙ comment_byte start l 47 (comment_rest 0 depth (b ∷ rest)) (b ∷ rest)

pub slash_opens : (start l depth : ℕ) (rest : List ℕ)
    → comment_items start l (comment_rest 0 depth (47 ∷ 42 ∷ rest)) (47 ∷ 42 ∷ rest) ≡ comment_items start l (comment_rest 0 (depth + 1) rest) rest
slash_opens start l depth rest =
    comment_byte start l 47 (option_map (λ n. n + 1) (comment_rest 0 (depth + 1) rest)) (42 ∷ rest) ∙ comment_byte start l 42 (comment_rest 0 (depth + 1) rest) rest

-- a star that closes nothing
pub star_plain : (start l depth b : ℕ) (rest : List ℕ) → (b == 47) ≡ false
    → comment_items start l (comment_rest 0 depth (42 ∷ b ∷ rest)) (42 ∷ b ∷ rest) ≡ comment_items start l (comment_rest 0 depth (b ∷ rest)) (b ∷ rest)
star_plain start l depth b rest e =
    let slash : nat_eq 47 b ≡ false = grind (arith, nat_tests, e) in
    let one : comment_rest 0 depth (42 ∷ b ∷ rest) ≡ option_map (λ n. n + 1) (comment_rest 0 depth (b ∷ rest)) =
    step_is depth 42 (b ∷ rest) ∙ ap (λ c. comment_step false (c && true) depth (b ∷ rest)) slash ∙ step_plain depth (b ∷ rest) in
    ap (λ o. comment_items start l o (42 ∷ b ∷ rest)) one ∙ comment_byte start l 42 (comment_rest 0 depth (b ∷ rest)) (b ∷ rest)

pub star_closes : (start l : ℕ) (rest : List ℕ) → comment_items start l (comment_rest 0 1 (42 ∷ 47 ∷ rest)) (42 ∷ 47 ∷ rest) ≡ hoa_items_from 0 l rest
star_closes start l rest = refl

pub star_closes_one : (start l depth : ℕ) (rest : List ℕ) → (depth == 1) ≡ false
    → comment_items start l (comment_rest 0 depth (42 ∷ 47 ∷ rest)) (42 ∷ 47 ∷ rest) ≡ comment_items start l (comment_rest 0 (depth - 1) rest) rest
star_closes_one start l depth rest e =
    let one : comment_rest 0 depth (42 ∷ 47 ∷ rest) ≡ option_map (λ n. n + 1) (option_map (λ n. n + 1) (comment_rest 0 (depth - 1) rest)) = rw e refl in
    ap (λ o. comment_items start l o (42 ∷ 47 ∷ rest)) one
    ∙ comment_byte start l 42 (option_map (λ n. n + 1) (comment_rest 0 (depth - 1) rest)) (47 ∷ rest) ∙ comment_byte start l 47 (comment_rest 0 (depth - 1) rest) rest

-- a slash that begins no comment
pub slash_alone : (l b : ℕ) (rest : List ℕ) → (b == 42) ≡ false → hoa_items_from 0 l (47 ∷ b ∷ rest) ≡ record { token = Unknown; line = l } ∷ []
slash_alone l b rest e = let star : nat_eq 42 b ≡ false = grind (arith, nat_tests, e) in rw star refl

pub slash_last : (l : ℕ) → hoa_items_from 0 l (47 ∷ []) ≡ record { token = Unknown; line = l } ∷ []
slash_last l = refl

-- ---- strings

pub string_first : (l : ℕ) (rest : List ℕ) → hoa_items_from 0 l (34 ∷ rest) ≡ string_items l l [] (string_rest false rest) rest
string_first l rest = opened (string_rest false rest)
  where
    opened : (o : Option (List ℕ × ℕ)) → (let f = string_found o in hoa_item_before f.0 l (hoa_items_from (f.1 - 1) l rest)) ≡ string_items l l [] o rest
    opened (Some s) = ap (λ k. record { token = StringToken s.0; line = l } ∷ hoa_items_from k l rest) (one s.1)
      where
        one : (k : ℕ) → k + 1 - 1 ≡ k
        one k = omega arith
    opened None = refl

-- a backslash
pub string_keeps : (start l : ℕ) (text rest : List ℕ) → string_items start l text (string_rest false (92 ∷ rest)) (92 ∷ rest) ≡ string_items start l text (string_rest true rest) rest
string_keeps start l text rest = kept (string_rest true rest)
  where
    kept : (o : Option (List ℕ × ℕ)) → string_items start l text (option_map (λ r. (r.0, r.1 + 1)) o) (92 ∷ rest) ≡ string_items start l text o rest
    kept (Some s) = ap (λ k. record { token = StringToken (text ++ s.0); line = start } ∷ hoa_items_from k l (92 ∷ rest)) (succ s.1)
    kept None = refl

-- a byte of the content
string_adds : (start l b : ℕ) (text rest : List ℕ) (o : Option (List ℕ × ℕ))
    → string_items start l text (option_map (λ r. (b ∷ r.0, r.1 + 1)) o) (b ∷ rest) ≡ string_items start (if b == 10 then l + 1 else l) (text ++ b ∷ []) o rest
string_adds start l b text rest (Some s) =
    ap (λ k. record { token = StringToken (text ++ b ∷ s.0); line = start } ∷ hoa_items_from k l (b ∷ rest)) (succ s.1)
    ∙ ap (λ t. record { token = StringToken t; line = start } ∷ hoa_items_from s.1 (if b == 10 then l + 1 else l) rest) (sym (append_assoc text (b ∷ []) s.0))
string_adds start l b text rest None = refl

pub string_goes_on : (start l b : ℕ) (text rest : List ℕ) → (b == 34) ≡ false → (b == 92) ≡ false
    → string_items start l text (string_rest false (b ∷ rest)) (b ∷ rest) ≡ string_items start (if b == 10 then l + 1 else l) (text ++ b ∷ []) (string_rest false rest) rest
string_goes_on start l b text rest e f =
    let one : string_rest false (b ∷ rest) ≡ option_map (λ r. (b ∷ r.0, r.1 + 1)) (string_rest false rest) = rw (e, f) refl in
    ap (λ o. string_items start l text o (b ∷ rest)) one ∙ string_adds start l b text rest (string_rest false rest)

pub string_kept : (start l b : ℕ) (text rest : List ℕ)
    → string_items start l text (string_rest true (b ∷ rest)) (b ∷ rest) ≡ string_items start (if b == 10 then l + 1 else l) (text ++ b ∷ []) (string_rest false rest) rest
string_kept start l b text rest = string_adds start l b text rest (string_rest false rest)

-- ---- marks and signs

-- longer bytes begin with a list only where they did so before, or the list goes on as they do
pub longer : (m p rest : List ℕ) → starts_with nat_eq (p ++ rest) m ≡ true → (starts_with nat_eq p m ≡ true) ⊎ (starts_with nat_eq m p ≡ true)
longer [] p rest e = inl refl
longer (x ∷ m) [] rest e = inr refl
longer (x ∷ m) (y ∷ p) rest e =
    let one = left_true (nat_eq x y) _ e in
    elim (longer m p rest (right_true (nat_eq x y) _ e)) [
      | inl k ↦ inl (ap (λ c. c && starts_with nat_eq p m) one ∙ k)
      | inr k ↦ inr (ap (λ c. c && starts_with nat_eq m p) (turned one) ∙ k)
    ]
  where
    turned : nat_eq x y ≡ true → nat_eq y x ≡ true
    turned q = grind (arith, nat_tests, q)

-- one byte more
pub one_longer : (m p : List ℕ) (b : ℕ) → starts_with nat_eq (p ++ b ∷ []) m ≡ true → (starts_with nat_eq p m ≡ true) ⊎ (same_name (p ++ b ∷ []) m ≡ true)
one_longer [] p b e = inl refl
one_longer (x ∷ []) [] b e = inr (let h0 = left_true (nat_eq x b) _ e in grind (arith, nat_tests, h0))
one_longer (x ∷ y ∷ m) [] b e = false_is_true (right_true (nat_eq x b) _ e)
one_longer (x ∷ m) (y ∷ p) b e =
    let one = left_true (nat_eq x y) _ e in
    elim (one_longer m p b (right_true (nat_eq x y) _ e)) [
      | inl k ↦ inl (ap (λ c. c && starts_with nat_eq p m) one ∙ k)
      | inr k ↦ inr (ap (λ c. c && same_name (p ++ b ∷ []) m) (turned one) ∙ k)
    ]
  where
    turned : nat_eq x y ≡ true → nat_eq y x ≡ true
    turned q = grind (arith, nat_tests, q)

pub body_first : (l : ℕ) (rest : List ℕ) → hoa_items_from 0 l (codes "--BODY--" ++ rest) ≡ record { token = Body; line = l } ∷ hoa_items_from 0 l rest
body_first l rest = refl

pub end_first : (l : ℕ) (rest : List ℕ) → hoa_items_from 0 l (codes "--END--" ++ rest) ≡ record { token = End; line = l } ∷ hoa_items_from 0 l rest
end_first l rest = refl

pub abort_first : (l : ℕ) (rest : List ℕ) → hoa_items_from 0 l (codes "--ABORT--" ++ rest) ≡ record { token = Abort; line = l } ∷ hoa_items_from 0 l rest
abort_first l rest = refl

-- a dash that begins no mark
pub dash_alone : (l : ℕ) (bs : List ℕ) → has_mark (45 ∷ bs) ≡ false → hoa_items_from 0 l (45 ∷ bs) ≡ record { token = Unknown; line = l } ∷ []
dash_alone l bs e =
    let n = none (starts_with nat_eq (45 ∷ bs) (codes "--BODY--")) (starts_with nat_eq (45 ∷ bs) (codes "--END--")) (starts_with nat_eq (45 ∷ bs) (codes "--ABORT--")) e in
    ap (λ (o : Option (List ℕ × HoaToken)). let f = sign_found o in hoa_item_before f.0 l (hoa_items_from (f.1 - 1) l bs)) (unfound _ _ _ n.0 n.1 n.2)
  where
    none : (s t u : Bool) → (s || t || u) ≡ false → (s ≡ false) × (t ≡ false) × (u ≡ false)
    none true t u q = cc
    none false true u q = cc
    none false false u q = (refl, refl, q)

    chosen : Bool → Bool → Bool → Option (List ℕ × HoaToken)
    chosen s t u = if s then Some (codes "--BODY--", Body) else if t then Some (codes "--END--", End) else if u then Some (codes "--ABORT--", Abort) else None

    unfound : (s t u : Bool) → s ≡ false → t ≡ false → u ≡ false → chosen s t u ≡ None
    unfound s t u p q r = rw (p, q, r) refl
