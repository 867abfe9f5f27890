-- The operations on words of bits as those on sets of numbers.
use Rattle.std.proofs.Common.{◌≡◌, ◌≢◌, ◌∙◌, ap, sym, refl, ℕ, suc, ◌<◌, ◌≤◌, w64, bit_and, bit_or, arith, Bool, true, false, cond, not, ◌||◌, ◌&&◌, inl, inr, nat_eq, List, [], ◌∷◌, length, map, Option, Some, None}
use Rattle.std.specs.Prelude.{bit_xor, replicate, MatchOption}
use Rattle.std.specs.Int.{bit_not}
use Rattle.std.specs.Bool.{Decides, beq}
use Rattle.std.specs.Simd.Lanes.{zip2}
use Rattle.std.specs.declared.cmp.Ordering.TheVariants.{Less, Equal, Greater}
use Rattle.std.specs.Ordering.{nat_cmp, ordering_reverse}
use Rattle.std.specs.List.{AllByRecursion, filter, list_any, range_with_len}
use Rattle.std.specs.Iterator.{YieldsFirst, MakesProgress, item_count}
use Rattle.std.specs.Iterator.Runs.{YieldsInOrder}
use Rattle.std.proofs.iter.runs.Sources.{from_front, as_is}
use Rattle.std.proofs.lemmas.List.FromFn.{length-range_with_len}
use Rattle.std.specs.Cmp.Lexicographic.{slice_cmp, pointwise, bytes_decides}
use Rattle.std.proofs.lemmas.Bool.Decides.{same_from_decides, Decides-like}
use Rattle.std.proofs.lemmas.Cmp.{tied_itself}
use Rattle.ltl_spec.specs.Collections.Sets.{put, union, has, is_subset}
use Rattle.ltl_spec.proofs.Collections.Orders.{nat_linear, row_set_linear}
use Rattle.ltl_spec.proofs.Collections.CaseLaws.{nat_eq_is, nat_eq_same, nat_eq_other}
use Rattle.ltl_spec.proofs.Collections.SetLaws.{all_at, has_Decides}
use Rattle.ltl_spec.proofs.Collections.SumLaws.{filter_length}
use Rattle.ltl_sets.specs.Words.{IsWords, bit_in, HasNone, Reaches, IsLowest, FindsLowest, LosesBit, places, members}
use Rattle.ltl_sets.specs.SubsetLaws.{filter_none, same_filter, union_tests, common_tests, put_test, subset_tests, first_taken, cmp_goes_on, cmp_ends, either_true, left_or, right_or}
use Rattle.ltl_sets.specs.WordLaws.{bit_in-or, bit_in-and, bit_in-xor, bit_in-without, bit_in-empty, same_words}
use Rattle.ltl_sets.specs.PlaceLaws.{less, below, places_rise, Has-places, places_below, has_members}
use Rattle.ltl_sets.specs.declared.row_set.TheConstants.RowSet.{LIMIT, WORDS}

-- ---- numbers and tests

pub never : {P : Type 0} → true ≡ false → P
never e = absurd (no e)
  where
    no : true ≡ false → ⊥
    no d = cc

pub false_if : (b : Bool) → (b ≡ true → ⊥) → b ≡ false
false_if true f = absurd (f refl)
false_if false f = refl

-- ---- sets

pub members_none : (ws : List ℕ) → HasNone ws → members ws ≡ []
unfolding members
members_none ws f = filter_none (bit_in ws) places (λ z h. f z (places_below z h))

pub members_empty : members (replicate WORDS 0) ≡ []
members_empty = members_none (replicate WORDS 0) bit_in-empty

-- one more bit is one more member
pub members_put : (ws us : List ℕ) (i : ℕ) → i < LIMIT → ((z : ℕ) → z < LIMIT → bit_in us z ≡ (bit_in ws z || nat_eq z i)) → members us ≡ put nat_cmp i (members ws)
unfolding members
members_put ws us i h f =
    put_test nat_linear places places_rise i (bit_in ws) (bit_in us) (Has-places i h)
    (f i h ∙ right_or (bit_in ws i) (nat_eq i i) (nat_eq_same i i refl))
    (λ z m e. f z (places_below z m) ∙ left_or (bit_in ws z) (nat_eq z i) e)
    (λ z m e. elim (either_true (bit_in ws z) (nat_eq z i) (sym (f z (places_below z m)) ∙ e)) [ inl t ↦ inr t | inr t ↦ inl (nat_eq_is z i t) ])

pub members_single : (us : List ℕ) (i : ℕ) → i < LIMIT → ((z : ℕ) → z < LIMIT → bit_in us z ≡ nat_eq z i) → members us ≡ i ∷ []
members_single us i h f =
    members_put (replicate WORDS 0) us i h (λ z l. f z l ∙ ap (λ b. b || nat_eq z i) (sym (bit_in-empty z l)))
    ∙ ap (put nat_cmp i) members_empty

pub members_insert : (ws us : List ℕ) (i : ℕ) → i < LIMIT → IsWords ws → IsWords us → ((z : ℕ) → z < LIMIT → bit_in us z ≡ nat_eq z i) → members (zip2 bit_or ws us) ≡ put nat_cmp i (members ws)
members_insert ws us i h one two f =
    members_put ws (zip2 bit_or ws us) i h (λ z l. bit_in-or ws us one two z l ∙ ap (λ b. bit_in ws z || b) (f z l))

pub members_union : (ws us : List ℕ) → IsWords ws → IsWords us → members (zip2 bit_or ws us) ≡ union nat_cmp (members ws) (members us)
unfolding members
members_union ws us one two =
    union_tests nat_linear places places_rise (bit_in ws) (bit_in us) (bit_in (zip2 bit_or ws us)) (λ z h. bit_in-or ws us one two z (places_below z h))

-- the members of a set that pass a test
tested : (ws us : List ℕ) (p : ℕ → Bool) → ((z : ℕ) → z < LIMIT → bit_in us z ≡ (bit_in ws z && p z)) → members us ≡ filter p (members ws)
unfolding members
tested ws us p f =
    same_filter (bit_in us) (λ z. bit_in ws z && p z) places (λ z h. f z (places_below z h))
    ∙ filter_filter (bit_in ws) p places
  where
    filter_filter : (p q : ℕ → Bool) (xs : List ℕ) → filter (λ z. p z && q z) xs ≡ filter q (filter p xs)
    filter_filter p q [] = refl
    filter_filter p q (x ∷ xs) = at (p x) (q x) refl (filter_filter p q xs)
      where
        at : (a b : Bool) → q x ≡ b → filter (λ z. p z && q z) xs ≡ filter q (filter p xs)
            → cond (a && b) (x ∷ filter (λ z. p z && q z) xs) (filter (λ z. p z && q z) xs) ≡ filter q (cond a (x ∷ filter p xs) (filter p xs))
        at true b e d = ap (cond b (x ∷ filter (λ z. p z && q z) xs)) d ∙ ap (λ ys. cond b (x ∷ ys) (filter q (filter p xs))) d ∙ ap (λ c. cond c (x ∷ filter q (filter p xs)) (filter q (filter p xs))) (sym e)
        at false b e d = d

pub members_common : (ws us : List ℕ) → IsWords ws → IsWords us → members (zip2 bit_and ws us) ≡ filter (λ i. has nat_cmp i (members us)) (members ws)
unfolding members
members_common ws us one two =
    common_tests nat_linear places places_rise (bit_in ws) (bit_in us) (bit_in (zip2 bit_and ws us)) (λ z h. bit_in-and ws us one two z (places_below z h))

pub members_without : (ws us : List ℕ) → IsWords ws → IsWords us → members (zip2 bit_and ws (map (bit_not w64) us)) ≡ filter (λ i. not (has nat_cmp i (members us))) (members ws)
members_without ws us one two =
    tested ws (zip2 bit_and ws (map (bit_not w64) us)) (λ i. not (has nat_cmp i (members us)))
    (λ z l. bit_in-without ws us one two z l ∙ ap (λ b. bit_in ws z && not b) (sym (has_members us z l)))

-- none of a list passes where the list of those that do is empty
any_filter : (p : ℕ → Bool) (xs : List ℕ) → Decides (list_any p xs) (filter p xs ≡ [] → ⊥)
any_filter p [] = ((λ e. never (sym e)), (λ f. absurd (f refl)))
any_filter p (x ∷ xs) = at (p x) (any_filter p xs)
  where
    some : (ys : List ℕ) → x ∷ ys ≡ [] → ⊥
    some ys e = cc

    at : (b : Bool) → Decides (list_any p xs) (filter p xs ≡ [] → ⊥) → Decides (b || list_any p xs) (cond b (x ∷ filter p xs) (filter p xs) ≡ [] → ⊥)
    at true d = ((λ e. some (filter p xs)), (λ f. refl))
    at false d = d

pub meets_Decides : (ws us : List ℕ) → IsWords ws → IsWords us → (r : Bool) → Decides r (HasNone (zip2 bit_and ws us)) → not r ≡ list_any (λ i. has nat_cmp i (members us)) (members ws)
meets_Decides ws us one two r d =
    same_from_decides (not r) (list_any p (members ws)) (at r d) (any_filter p (members ws))
  where
    p : ℕ → Bool
    p i = has nat_cmp i (members us)

    same : members (zip2 bit_and ws us) ≡ filter p (members ws)
    same = members_common ws us one two

    bits : filter p (members ws) ≡ [] → HasNone (zip2 bit_and ws us)
    bits e i l = sym (has_members (zip2 bit_and ws us) i l) ∙ ap (has nat_cmp i) (same ∙ e)

    at : (b : Bool) → Decides b (HasNone (zip2 bit_and ws us)) → Decides (not b) (filter p (members ws) ≡ [] → ⊥)
    at true d = ((λ e. never (sym e)), (λ f. absurd (f (sym same ∙ members_none (zip2 bit_and ws us) (d.0 refl)))))
    at false d = ((λ e n. never (sym (d.1 (bits n)))), (λ f. refl))

lacks_none : (a b : Bool) → (a && not b) ≡ false → a ≡ true → b ≡ true
lacks_none true true e f = refl
lacks_none true false e f = never e
lacks_none false b e f = never (sym f)

none_lacks : (a b : Bool) → (a ≡ true → b ≡ true) → (a && not b) ≡ false
none_lacks true b f = ap not (f refl)
none_lacks false b f = refl

pub subset_Decides : (ws us : List ℕ) → IsWords ws → IsWords us → (r : Bool) → Decides r (HasNone (zip2 bit_and ws (map (bit_not w64) us))) → r ≡ is_subset nat_cmp (members ws) (members us)
unfolding members
subset_Decides ws us one two r d =
    same_from_decides r (is_subset nat_cmp (filter (bit_in ws) places) (filter (bit_in us) places))
    (Decides-like r
    (λ f z m e. lacks_none (bit_in ws z) (bit_in us z) (sym (bit_in-without ws us one two z (places_below z m)) ∙ f z (places_below z m)) e)
    (λ f z l. bit_in-without ws us one two z l ∙ none_lacks (bit_in ws z) (bit_in us z) (f z (Has-places z l)))
    d)
    (subset_tests nat_linear places places_rise (bit_in ws) (bit_in us))

-- ---- two sets, bit by bit

same_tests : (a b : Bool) → not (beq a b) ≡ false → a ≡ b
same_tests true true e = refl
same_tests true false e = never e
same_tests false true e = never e
same_tests false false e = refl

tests_same : (a b : Bool) → a ≡ b → not (beq a b) ≡ false
tests_same true true e = refl
tests_same true false e = never e
tests_same false true e = never (sym e)
tests_same false false e = refl

pub same_bits : (ws us : List ℕ) → IsWords ws → IsWords us → HasNone (zip2 bit_xor ws us) → ws ≡ us
same_bits ws us one two f = same_words ws us one two (λ i h. same_tests (bit_in ws i) (bit_in us i) (sym (bit_in-xor ws us one two i h) ∙ f i h))

pub bits_same : (ws us : List ℕ) → IsWords ws → IsWords us → members ws ≡ members us → HasNone (zip2 bit_xor ws us)
bits_same ws us one two e i h =
    bit_in-xor ws us one two i h
    ∙ tests_same (bit_in ws i) (bit_in us i) (sym (has_members ws i h) ∙ ap (has nat_cmp i) e ∙ has_members us i h)

pub same_Decides : (ws us : List ℕ) → IsWords ws → IsWords us → (r : Bool) → Decides r (HasNone (zip2 bit_xor ws us)) → r ≡ pointwise nat_eq (members ws) (members us)
same_Decides ws us one two r d =
    same_from_decides r (pointwise nat_eq (members ws) (members us))
    (Decides-like r (λ f. ap members (same_bits ws us one two f)) (bits_same ws us one two) d)
    (bytes_decides (members ws) (members us))

differ : (a b : Bool) → not (beq a b) ≡ true → b ≡ not a
differ true true e = never (sym e)
differ true false e = refl
differ false true e = refl
differ false false e = never (sym e)

-- ---- the order of two sets

-- what is said of the first list of two, at the first member that only one of them has
cmp_first : (ws us : List ℕ) (i : ℕ) → i < LIMIT → bit_in ws i ≡ true → bit_in us i ≡ false → ((j : ℕ) → j < i → bit_in ws j ≡ bit_in us j)
    → (g : Bool) → Decides g (Reaches us i) → slice_cmp nat_cmp (members ws) (members us) ≡ cond g Less Greater
unfolding members
cmp_first ws us i h mine lacks agree true d =
    let (j, l, m, e) = d.0 refl in
    cmp_goes_on nat_linear i (bit_in ws) (bit_in us) mine lacks places places_rise (Has-places i h) (λ z k b. agree z (below z i b))
    j (Has-places j m) (less i j (later i j l (λ s. never (sym e ∙ ap (bit_in us) s ∙ lacks)))) e
  where
    later : (a b : ℕ) → a ≤ b → b ≢ a → a < b
    later a b l n = omega arith
cmp_first ws us i h mine lacks agree false d =
    cmp_ends nat_linear i (bit_in ws) (bit_in us) mine lacks places places_rise (Has-places i h) (λ z k b. agree z (below z i b))
    (λ y m b. false_if (bit_in us y) (λ e. never (sym (d.1 (y, at_least i y (below i y b), places_below y m, e)))))
  where
    at_least : (a b : ℕ) → a < b → a ≤ b
    at_least a b l = omega arith

turned : (ws us : List ℕ) (g : Bool) → slice_cmp nat_cmp (members us) (members ws) ≡ cond g Less Greater → slice_cmp nat_cmp (members ws) (members us) ≡ cond (beq false g) Less Greater
turned ws us true e = row_set_linear.total.antisymm (members ws) (members us) ∙ ap ordering_reverse e
turned ws us false e = row_set_linear.total.antisymm (members ws) (members us) ∙ ap ordering_reverse e

pub cmp_differing : (ws us : List ℕ) → IsWords ws → IsWords us → (i : ℕ) → IsLowest (zip2 bit_xor ws us) i
    → (b g : Bool) → b ≡ bit_in ws i → Decides g (Reaches (cond b us ws) i) → slice_cmp nat_cmp (members ws) (members us) ≡ cond (beq b g) Less Greater
cmp_differing ws us one two i low true g mine d =
    cmp_first ws us i low.below (sym mine) (differ (bit_in ws i) (bit_in us i) (sym (bit_in-xor ws us one two i low.below) ∙ low.one) ∙ ap not (sym mine))
    (λ j h. same_tests (bit_in ws j) (bit_in us j) (sym (bit_in-xor ws us one two j (lower j h)) ∙ low.zeros j h)) g d
    ∙ whole g
  where
    lower : (j : ℕ) → j < i → j < LIMIT
    lower j h = omega (arith, low.below)

    whole : (g : Bool) → cond g Less Greater ≡ cond (beq true g) Less Greater
    whole true = refl
    whole false = refl
cmp_differing ws us one two i low false g mine d =
    turned ws us g
    (cmp_first us ws i low.below (differ (bit_in ws i) (bit_in us i) (sym (bit_in-xor ws us one two i low.below) ∙ low.one) ∙ ap not (sym mine)) (sym mine)
    (λ j h. sym (same_tests (bit_in ws j) (bit_in us j) (sym (bit_in-xor ws us one two j (lower j h)) ∙ low.zeros j h))) g d)
  where
    lower : (j : ℕ) → j < i → j < LIMIT
    lower j h = omega (arith, low.below)

pub cmp_same : (ws us : List ℕ) → IsWords ws → IsWords us → HasNone (zip2 bit_xor ws us) → slice_cmp nat_cmp (members ws) (members us) ≡ Equal
cmp_same ws us one two f =
    ap (λ vs. slice_cmp nat_cmp (members vs) (members us)) (same_bits ws us one two f) ∙ tied_itself row_set_linear.total (members us)

-- ---- one member after another

lost : (a b : Bool) → b ≡ true → (a && not b) ≡ false
lost true b e = ap not e
lost false b e = refl

kept : (a b : Bool) → b ≡ false → (a && not b) ≡ a
kept true b e = ap not e
kept false b e = refl

pub members_first : (ws us : List ℕ) (i : ℕ) → IsLowest ws i → LosesBit ws i us → members ws ≡ i ∷ members us
unfolding members
members_first ws us i low f =
    first_taken nat_linear i (bit_in ws) (bit_in us) (f i low.below ∙ lost (bit_in ws i) (nat_eq i i) (nat_eq_same i i refl)) low.one
    places places_rise (Has-places i low.below)
    (λ z m d. f z (places_below z m) ∙ kept (bit_in ws z) (nat_eq z i) (nat_eq_other z i d))
    (λ z m b. low.zeros z (below z i b))

pub yields_members : (ws us : List ℕ) (r : Option ℕ) → FindsLowest ws r → MatchOption r (us ≡ ws) (λ i. LosesBit ws i us) → YieldsFirst members ws r us
yields_members ws us None f g = (members_none ws f, ap members g ∙ members_none ws f)
yields_members ws us (Some i) f g = members_first ws us i f g

-- an iterator that gives the first of what is left goes on and ends
pub first_progress : {A : Type 0} (can : List A → Type 0) → ((t : List A) → can t) → (s : List A) (r : Option A) (t : List A)
    → YieldsFirst (λ rest. rest) s r t → MakesProgress can (item_count (λ rest. rest)) s r t
first_progress can f s None t y = record { on = λ _. tt; keeps = tt; rests = λ _. tt }
first_progress can f s (Some x) t y = record { on = λ _. (f t, tt, shorter (length s) (length t) (ap length y)); keeps = f t; rests = λ _. tt }
  where
    shorter : (a b : ℕ) → a ≡ suc b → b < a
    shorter a b e = omega arith

-- and a run of calls gives what is left in its order
pub first_runs : {A : Type 0} → YieldsInOrder (YieldsFirst {A = A} (λ rest. rest)) (λ rest. rest)
first_runs {A} p s = as_is p p.from (from_front (YieldsFirst {A = A} (λ rest. rest)) (λ y. y) (λ rest. rest) (λ s t h. ap length h.0) (λ s x t h. h) p s)

pub members_few : (ws : List ℕ) → length (members ws) ≤ LIMIT
unfolding members places
members_few ws = omega (arith, filter_length (bit_in ws) (range_with_len 0 LIMIT), length-range_with_len 0 LIMIT)

-- a number past those that a set can hold is not in it
pub none_high : (all : List ℕ) (i : ℕ) → AllByRecursion (λ j. j < LIMIT) all → LIMIT ≤ i → has nat_cmp i all ≡ false
none_high all i below l = false_if (has nat_cmp i all) (λ e. let h : i < LIMIT = all_at (λ j. j < LIMIT) all i below ((has_Decides nat_linear i all).0 e) in omega (arith, h, l))
