-- The first string behind some tokens, by the tokens so far and one more.
use Rattle.std.proofs.Common.{◌≡◌, ℕ, zero, suc, ◌≤◌, Bool, true, false, ◌&&◌, ◌||◌, List, [], ◌∷◌, ◌++◌, length, Option, Some, None, refl, sym, ◌∙◌, ap, arith}
use Rattle.std.specs.Prelude.{if◌then◌else◌}
use Rattle.ltl_spec.specs.Hoa.HoaToken.{HoaToken, StringToken}
use Rattle.ltl_spec.specs.Hoa.HoaNames.{or_next, is_same, string_behind, first_behind}

-- the content of a string
abbrev pub string_of : HoaToken → Option (List ℕ)
string_of (StringToken s) = Some s
string_of t = None

-- that of a token behind the tokens, or none
abbrev pub string_when : Bool → HoaToken → Option (List ℕ)
string_when c t = if c then string_of t else None

-- whether a text is these tokens, and whether it ends with them
abbrev pub are_all : List HoaToken → List HoaToken → Bool
are_all [] [] = true
are_all (k ∷ ks) (t ∷ ts) = is_same k t && are_all ks ts
are_all _ _ = false

abbrev pub ends_with : List HoaToken → List HoaToken → Bool
ends_with ks [] = are_all ks []
ends_with ks (t ∷ ts) = are_all ks (t ∷ ts) || ends_with ks ts

pub or_none : {X : Type 0} (o : Option X) → or_next o None ≡ o
or_none (Some x) = refl
or_none None = refl

or_assoc : {X : Type 0} (a b c : Option X) → or_next (or_next a b) c ≡ or_next a (or_next b c)
or_assoc (Some x) b c = refl
or_assoc None b c = refl

none_yet : (ks : List HoaToken) → string_behind ks [] ≡ None
none_yet [] = refl
none_yet (k ∷ ks) = refl

-- a string behind these tokens, with one token more
string_more : (ks ts : List HoaToken) (t : HoaToken) → string_behind ks (ts ++ t ∷ []) ≡ or_next (string_behind ks ts) (string_when (are_all ks ts) t)
string_more [] [] t = go t
  where
    go : (t : HoaToken) → string_behind [] (t ∷ []) ≡ string_of t
    go (StringToken s) = refl
    go t = refl
string_more [] (x ∷ xs) t = go x
  where
    go : (x : HoaToken) → string_behind [] (x ∷ xs ++ t ∷ []) ≡ or_next (string_behind [] (x ∷ xs)) None
    go (StringToken s) = refl
    go x = refl
string_more (k ∷ ks) [] t = go (is_same k t)
  where
    go : (c : Bool) → (if c then string_behind ks [] else None) ≡ None
    go true = none_yet ks
    go false = refl
string_more (k ∷ ks) (x ∷ xs) t = go (is_same k x) (string_more ks xs t)
  where
    go : (c : Bool) → string_behind ks (xs ++ t ∷ []) ≡ or_next (string_behind ks xs) (string_when (are_all ks xs) t)
        → (if c then string_behind ks (xs ++ t ∷ []) else None) ≡ or_next (if c then string_behind ks xs else None) (string_when (c && are_all ks xs) t)
    go true h = h
    go false h = refl

-- too few tokens for a string behind them
short_string : (ks ts : List HoaToken) → length ts ≤ length ks → string_behind ks ts ≡ None
short_string [] [] l = refl
short_string [] (t ∷ ts) l = absurd (omega (arith, l))
short_string (k ∷ ks) [] l = refl
short_string (k ∷ ks) (t ∷ ts) l = go (is_same k t) (short_string ks ts (omega (arith, l)))
  where
    go : (c : Bool) → string_behind ks ts ≡ None → (if c then string_behind ks ts else None) ≡ None
    go true h = h
    go false h = refl

short_first : (ks ts : List HoaToken) → length ts ≤ length ks → first_behind ks ts ≡ None
short_first ks [] l = refl
short_first ks (t ∷ ts) l = ap (λ o. or_next o (first_behind ks ts)) (short_string ks (t ∷ ts) l) ∙ short_first ks ts (omega (arith, l))

all_counted : (ks ts : List HoaToken) → are_all ks ts ≡ true → length ts ≡ length ks
all_counted [] [] e = refl
all_counted [] (t ∷ ts) e = cc
all_counted (k ∷ ks) [] e = cc
all_counted (k ∷ ks) (t ∷ ts) e = go (is_same k t) e (λ q. all_counted ks ts q)
  where
    go : (c : Bool) → (c && are_all ks ts) ≡ true → (are_all ks ts ≡ true → length ts ≡ length ks) → length (t ∷ ts) ≡ length (k ∷ ks)
    go true q h = ap suc (h q)
    go false q h = cc

-- the first string, with one token more
pub first_more : (ks ts : List HoaToken) (t : HoaToken) → first_behind ks (ts ++ t ∷ []) ≡ or_next (first_behind ks ts) (string_when (ends_with ks ts) t)
first_more ks [] t = or_none (string_behind ks (t ∷ [])) ∙ string_more ks [] t ∙ ap (λ o. or_next o (string_when (are_all ks []) t)) (none_yet ks)
first_more ks (x ∷ xs) t =
    ap (λ o. or_next o (first_behind ks (xs ++ t ∷ []))) (string_more ks (x ∷ xs) t)
    ∙ ap (λ o. or_next (or_next (string_behind ks (x ∷ xs)) (string_when (are_all ks (x ∷ xs)) t)) o) (first_more ks xs t)
    ∙ go (are_all ks (x ∷ xs)) refl
  where
    twice : (a s : Option (List ℕ)) (d : Bool) → or_next (or_next a s) (if d then s else None) ≡ or_next (or_next a None) s
    twice (Some x) s d = refl
    twice None (Some y) d = refl
    twice None None true = refl
    twice None None false = refl

    go : (c : Bool) → are_all ks (x ∷ xs) ≡ c
        → or_next (or_next (string_behind ks (x ∷ xs)) (string_when c t)) (or_next (first_behind ks xs) (string_when (ends_with ks xs) t))
        ≡ or_next (or_next (string_behind ks (x ∷ xs)) (first_behind ks xs)) (string_when (c || ends_with ks xs) t)
    go true e =
        let none : first_behind ks xs ≡ None = let l = all_counted ks (x ∷ xs) e in short_first ks xs (omega (arith, l)) in
        ap (λ o. or_next (or_next (string_behind ks (x ∷ xs)) (string_of t)) (or_next o (string_when (ends_with ks xs) t))) none
        ∙ twice (string_behind ks (x ∷ xs)) (string_of t) (ends_with ks xs)
        ∙ ap (λ o. or_next (or_next (string_behind ks (x ∷ xs)) o) (string_of t)) (sym none)
    go false e =
        ap (λ o. or_next o (or_next (first_behind ks xs) (string_when (ends_with ks xs) t))) (or_none (string_behind ks (x ∷ xs)))
        ∙ sym (or_assoc (string_behind ks (x ∷ xs)) (first_behind ks xs) (string_when (ends_with ks xs) t))

-- another token than a string changes nothing
pub first_same : (ks ts : List HoaToken) (t : HoaToken) → string_of t ≡ None → first_behind ks (ts ++ t ∷ []) ≡ first_behind ks ts
first_same ks ts t e = first_more ks ts t ∙ ap (or_next (first_behind ks ts)) (go (ends_with ks ts)) ∙ or_none (first_behind ks ts)
  where
    go : (c : Bool) → string_when c t ≡ None
    go true = e
    go false = refl

-- ---- the last token

and_false : (c : Bool) → (c && false) ≡ false
and_false true = refl
and_false false = refl

and_true : (c : Bool) → (c && true) ≡ c
and_true true = refl
and_true false = refl

or_false : (c : Bool) → (c || false) ≡ c
or_false true = refl
or_false false = refl

none_all : (ks : List HoaToken) (k : HoaToken) → are_all (ks ++ k ∷ []) [] ≡ false
none_all [] k = refl
none_all (a ∷ ks) k = refl

all_more : (ks ts : List HoaToken) (k t : HoaToken) → are_all (ks ++ k ∷ []) (ts ++ t ∷ []) ≡ (are_all ks ts && is_same k t)
all_more [] [] k t = and_true (is_same k t)
all_more [] (x ∷ []) k t = and_false (is_same k x)
all_more [] (x ∷ y ∷ xs) k t = and_false (is_same k x)
all_more (a ∷ ks) [] k t = ap (λ c. is_same a t && c) (none_all ks k) ∙ and_false (is_same a t)
all_more (a ∷ ks) (x ∷ xs) k t = go (is_same a x) (all_more ks xs k t)
  where
    go : (c : Bool) → are_all (ks ++ k ∷ []) (xs ++ t ∷ []) ≡ (are_all ks xs && is_same k t)
        → (c && are_all (ks ++ k ∷ []) (xs ++ t ∷ [])) ≡ ((c && are_all ks xs) && is_same k t)
    go true h = h
    go false h = refl

-- the tokens with one more end with these, if both last ones are the same and so are the others
pub ends_more : (ks ts : List HoaToken) (k t : HoaToken) → ends_with (ks ++ k ∷ []) (ts ++ t ∷ []) ≡ (ends_with ks ts && is_same k t)
ends_more ks [] k t = ap (λ c. are_all (ks ++ k ∷ []) (t ∷ []) || c) (none_all ks k) ∙ or_false (are_all (ks ++ k ∷ []) (t ∷ [])) ∙ all_more ks [] k t
ends_more ks (x ∷ xs) k t = (λ i. all_more ks (x ∷ xs) k t i || ends_more ks xs k t i) ∙ go (are_all ks (x ∷ xs)) (ends_with ks xs) (is_same k t)
  where
    go : (a b s : Bool) → ((a && s) || (b && s)) ≡ ((a || b) && s)
    go true true true = refl
    go true true false = refl
    go true false true = refl
    go true false false = refl
    go false b s = refl

pub ends_none : (ts : List HoaToken) → ends_with [] ts ≡ true
ends_none [] = refl
ends_none (t ∷ ts) = ends_none ts
