-- Columns of a block: which pairs are in them, loop by loop.
use Rattle.std.proofs.Common.{◌≡◌, ◌≢◌, ℕ, zero, suc, ◌+◌, ◌<◌, ◌≤◌, Bool, true, false, cond, not, ◌&&◌, ◌||◌, inl, inr, List, [], ◌∷◌, ◌++◌, length, map, take, refl, sym, ◌∙◌, ap, arith, Some}
use Rattle.std.specs.List.{filter}
use Rattle.std.specs.Ordering.{nat_cmp}
use Rattle.std.specs.Prelude.{slice_get, slice_index_or}
use Rattle.std.proofs.lemmas.List.{map-append, take_more}
use Rattle.std.proofs.lemmas.Option.{get_or_from_slice_get, slice_get_within}
use Rattle.ltl_spec.specs.Collections.Sets.{has, put, union}
use Rattle.ltl_spec.specs.Collections.Lists.{places_from, places_where}
use Rattle.ltl_spec.specs.Transitions.Pairs.{Pair}
use Rattle.ltl_spec.specs.Transitions.RowTransitions.{Table}
use Rattle.ltl_spec.proofs.Collections.CaseLaws.{below_or_last}
use Rattle.ltl_spec.proofs.Collections.Orders.{nat_linear}
use Rattle.ltl_spec.proofs.Collections.SetLaws.{has_Decides, put_cases, put_new, put_old}
use Rattle.ltl_spec.proofs.Transitions.Steps as steps
use Rattle.ltl_spec.proofs.Transitions.Steps.{step_passes, tests_of}
use Rattle.least.specs.Columns.{AreColumnsOf, ColumnTable, column_at}
use Rattle.ltl_alt.specs.Columns.{AreColumns, AreUnmarked, IsColumn, IsNeeding, IsStepColumn, answers_at, unmarked_by}
use Rattle.ltl_alt.specs.Tests.{AreTests, step_of, steps_of}
use Rattle.ltl_alt.specs.declared.columns.Needing.{Needing}
use Rattle.ltl_alt.specs.declared.fulfilment.Fulfilment.{Fulfilment}
use Rattle.ltl_alt.specs.declared.fulfilment.UntilTest.{UntilTest}
use Rattle.ltl_alt.specs.declared.program.Step.{Step}
use Rattle.least.proofs.HasLaws.{has_filter, has_union, same_truth}
use Rattle.ltl_alt.proofs.FulfilLaws.{answers_step, marked_by_answer}

-- ---- a member more

has_put_same : (k : ℕ) (xs : List ℕ) → has nat_cmp k (put nat_cmp k xs) ≡ true
has_put_same k xs = (has_Decides nat_linear k (put nat_cmp k xs)).1 (put_new nat_linear k xs)

has_put_other : (j k : ℕ) (xs : List ℕ) → j ≢ k → has nat_cmp j (put nat_cmp k xs) ≡ has nat_cmp j xs
has_put_other j k xs n =
    same_truth (has nat_cmp j (put nat_cmp k xs)) (has nat_cmp j xs)
    (λ e. (has_Decides nat_linear j xs).1 (elim (put_cases nat_cmp k xs j ((has_Decides nat_linear j (put nat_cmp k xs)).0 e)) [ inl d ↦ absurd (n d) | inr h ↦ h ]))
    (λ e. (has_Decides nat_linear j (put nat_cmp k xs)).1 (put_old nat_cmp k xs j ((has_Decides nat_linear j xs).0 e)))

-- ---- all pairs of a block

-- the set has the numbers below n
abbrev pub HasBelow : ℕ → List ℕ → Type 0
HasBelow n c = (j : ℕ) → j < n → has nat_cmp j c ≡ true

pub below_next : (n : ℕ) (old new : List ℕ) → new ≡ put nat_cmp n old → HasBelow n old → HasBelow (n + 1) new
below_next n old new d w j l = elim (below_or_last j n l) [
  | inl m ↦ ap (has nat_cmp j) d ∙ has_put_other j n old (omega arith) ∙ w j m
  | inr i ↦ ap (has nat_cmp j) d ∙ ap (λ k. has nat_cmp k (put nat_cmp n old)) i ∙ has_put_same n old
]

pub below_ends : (ps : List Pair) (n : ℕ) (c : List ℕ) → length ps ≤ n → HasBelow n c → IsColumn (λ p. true) ps c
below_ends ps n c l w j p e = let m = slice_get_within ps j p e in w j (omega arith)

-- ---- the pairs that need something

-- the set that is made of an element
set_of : {K : Type 0} (f : K → List ℕ) (xs : List K) (i : ℕ) (x : K) → slice_get xs i ≡ Some x → slice_index_or (map f xs) i [] ≡ f x
set_of f [] i x g = cc
set_of f (y ∷ xs) zero x g = let e : y ≡ x = cc in ap f e
set_of f (y ∷ xs) (suc i) x g = set_of f xs i x g

-- the pairs whose sets have a number
pub column_has : (f : Pair → List ℕ) (ps : List Pair) (c : ColumnTable) (r : List ℕ) (e : ℕ) → AreColumnsOf (map f ps) c → r ≡ column_at c e → IsColumn (λ p. has nat_cmp e (f p)) ps r
column_has f ps c r e w d j p g = ap (has nat_cmp j) d ∙ w.each e j ∙ ap (has nat_cmp e) (set_of f ps j p g)

-- ---- the columns of steps

-- whether an index is in the column of a number
pub answer_in : (j : ℕ) (cs : List (List ℕ)) (i : ℕ) → slice_index_or (answers_at j cs) i false ≡ has nat_cmp j (slice_index_or cs i [])
answer_in j [] i = refl
answer_in j (c ∷ cs) zero = refl
answer_in j (c ∷ cs) (suc i) = answer_in j cs i

pub both_column : (ps : List Pair) (cs : List (List ℕ)) (i k : ℕ) (c : List ℕ) → c ≡ filter (λ n. has nat_cmp n (slice_index_or cs k [])) (slice_index_or cs i []) → IsStepColumn ps cs (steps.Both i k) c
both_column ps cs i k c e j p g =
    ap (has nat_cmp j) e ∙ has_filter (λ n. has nat_cmp n (slice_index_or cs k [])) j (slice_index_or cs i []) ∙ (λ x. sym (answer_in j cs i) x && sym (answer_in j cs k) x)

pub either_column : (ps : List Pair) (cs : List (List ℕ)) (i k : ℕ) (c : List ℕ) → c ≡ union nat_cmp (slice_index_or cs i []) (slice_index_or cs k []) → IsStepColumn ps cs (steps.Either i k) c
either_column ps cs i k c e j p g =
    ap (has nat_cmp j) e ∙ has_union j (slice_index_or cs i []) (slice_index_or cs k []) ∙ (λ x. sym (answer_in j cs i) x || sym (answer_in j cs k) x)

-- one step more
pub columns_step : (ps : List Pair) (ss : List Step) (k : ℕ) (s : Step) (old new : List (List ℕ)) (c : List ℕ) → k < length ss → s ≡ slice_index_or ss k s → new ≡ old ++ c ∷ [] → IsStepColumn ps old (step_of s) c
    → AreColumns (steps_of (take k ss)) ps old → AreColumns (steps_of (take (k + 1) ss)) ps new
columns_step ps ss k s old new c l is f g w j p e =
    answers_step p ss k s (answers_at j old) (answers_at j new) (has nat_cmp j c) l is (ap (answers_at j) f ∙ map-append (has nat_cmp j) old (c ∷ [])) (g j p e) (w j p e)

-- ---- marks

-- the test of an until row
there : (us : List UntilTest) (i : ℕ) → i < length us → (u : UntilTest) × (slice_get us i ≡ Some u)
there [] i l = absurd (omega arith)
there (u ∷ us) zero l = (u, refl)
there (u ∷ us) (suc i) l = there us i (omega arith)

not_either : (a b : Bool) → (a && not b) ≡ not (not a || b)
not_either true b = refl
not_either false b = refl

pub not_twice : (b : Bool) → not (not b) ≡ b
not_twice true = refl
not_twice false = refl

-- the pairs of a block that aren't marked, by the columns of all steps
pub unmarked_are : {A : Type 0} (T : Table) (f : Fulfilment A) (ps : List Pair) (n : Needing A) (cs : List (List ℕ)) (c : ColumnTable) → AreTests T f → IsNeeding ps n → AreColumns (steps_of f.steps.items) ps cs
    → AreColumnsOf (map (unmarked_by n cs) f.untils.items) c → AreUnmarked T ps c
unmarked_are {A} T f ps n cs c tests w a e j p found consistent i l =
    let us = f.untils.items in
    let count = tests.count in
    let inside : i < length us = omega arith in
    let (u, at) = there us i inside in
    let passing = slice_index_or cs u.step [] in
    e.each j i
    ∙ ap (has nat_cmp j) (set_of (unmarked_by n cs) us i u at)
    ∙ has_filter (λ k. not (has nat_cmp k passing)) j (column_at n.targets u.place)
    ∙ ap (λ b. b && not (has nat_cmp j passing)) (column_has (λ q. q.targets) ps n.targets (column_at n.targets u.place) u.place w.targets refl j p found)
    ∙ not_either (has nat_cmp u.place p.targets) (has nat_cmp j passing)
    ∙ ap not (ap (λ b. not (has nat_cmp u.place p.targets) || b) (sym (answer_in j cs u.step)) ∙ marked_by_answer T f tests p consistent (answers_at j cs) (a j p found) i u at l)

-- one image more
pub mapped_next : {K L : Type 0} (f : K → L) (xs : List K) (n : ℕ) (x : K) (y : L) (old new : List L) → slice_get xs n ≡ Some x → y ≡ f x → new ≡ old ++ y ∷ [] → old ≡ map f (take n xs) → new ≡ map f (take (n + 1) xs)
mapped_next {K} {L} f xs n x y old new g e d w =
    let more : take (n + 1) xs ≡ take n xs ++ x ∷ [] = take_more xs n x (slice_get_within xs n x g) ∙ ap (λ z. take n xs ++ z ∷ []) (get_or_from_slice_get xs n x x g) in
    d ∙ (λ i. w i ++ e i ∷ []) ∙ sym (ap (map f) more ∙ map-append f (take n xs) (x ∷ []))

-- the places that are kept of all places of a list
places_kept : {K : Type 0} (q : ℕ → Bool) (f : K → Bool) (d : K) (xs : List K) (n : ℕ) → ((i : ℕ) → i < length xs → q (n + i) ≡ f (slice_index_or xs i d)) → filter q (places_from (λ x. true) n xs) ≡ places_from f n xs
places_kept q f d [] n h = refl
places_kept {K} q f d (x ∷ xs) n h =
    ap (λ b. cond b (n ∷ filter q (places_from (λ y. true) (n + 1) xs)) (filter q (places_from (λ y. true) (n + 1) xs))) first
    ∙ ap (λ ks. cond (f x) (n ∷ ks) ks) (places_kept q f d xs (n + 1) (λ i l. ap q (next i) ∙ h (suc i) (omega arith)))
  where
    next : (i : ℕ) → n + 1 + i ≡ n + suc i
    next i = omega arith

    first : q n ≡ f x
    first = let e : n ≡ n + 0 = omega arith in ap q e ∙ h 0 (omega arith)

pub kept_places : {K : Type 0} (q : ℕ → Bool) (f : K → Bool) (d : K) (xs : List K) → ((i : ℕ) → i < length xs → q i ≡ f (slice_index_or xs i d)) → filter q (places_where (λ x. true) xs) ≡ places_where f xs
kept_places q f d xs h = places_kept q f d xs 0 (λ i l. (let e : 0 + i ≡ i = omega arith in ap q e) ∙ h i l)
