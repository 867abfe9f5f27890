-- The lists of the steps of a program, as more steps are listed.
use Rattle.std.proofs.Common.{◌≡◌, ◌≢◌, ℕ, zero, suc, ◌+◌, ◌<◌, Bool, true, false, inl, inr, List, [], ◌∷◌, length, refl, sym, ◌∙◌, ap, subst, arith, Some, Option, length-set}
use Rattle.std.specs.Prelude.{slice_get, slice_set, slice_index_or}
use Rattle.ltl_spec.specs.Collections.Sets.{set_of}
use Rattle.ltl_spec.specs.Transitions.Pairs.{Pair, empty_pair, later_pair, pair_cmp}
use Rattle.ltl_spec.specs.Transitions.RowTransitions.{Table}
use Rattle.ltl_spec.proofs.Transitions.Steps as spec
use Rattle.ltl_spec.proofs.Transitions.Steps.{IsOperand, step_test, tests_of}
use Rattle.ltl_spec.proofs.Transitions.WantedSteps.{AreWantedFrom}
use Rattle.ltl_alt.specs.NeedsView.{IsNeeded}
use Rattle.ltl_alt.specs.StandIns.{IsFit, IsKeptBy, IsPruned, StandsFor}
use Rattle.ltl_alt.specs.StepLists.{AreLists, AreOperandsMade, IsListedStep, IsMore, MadeBelow, is_made, list_at, list_or_none, pairs_of, was_made}
use Rattle.ltl_alt.specs.Steps.{AreOrdered}
use Rattle.ltl_alt.specs.TestPairs.{dnf, step_pairs}
use Rattle.ltl_alt.specs.Tests.{step_of, steps_of}
use Rattle.ltl_alt.specs.declared.fulfilment.Fulfilment.{Fulfilment}
use Rattle.ltl_alt.specs.declared.program.Step.{Step}
use Rattle.ltl_alt.specs.declared.rule.Rule.{Rule}
use Rattle.ltl_alt.proofs.NeedsLaws.{same_default, same_or_other}
use Rattle.ltl_alt.proofs.ProgramLaws.{inside, step_found, test_whole}
use Rattle.ltl_alt.proofs.StandInLaws.{kept_all, kept_append, kept_join, kept_on, kept_same, pruned_of, stands_in}

-- ---- one more list

get_set_same : {X : Type 0} (xs : List X) (i : ℕ) (x : X) → i < length xs → slice_get (slice_set xs i x) i ≡ Some x
get_set_same [] i x l = absurd (omega arith)
get_set_same (y ∷ xs) zero x l = refl
get_set_same (y ∷ xs) (suc i) x l = get_set_same xs i x (omega arith)

get_set_other : {X : Type 0} (xs : List X) (i k : ℕ) (x : X) → k ≢ i → slice_get (slice_set xs i x) k ≡ slice_get xs k
get_set_other [] i k x n = refl
get_set_other (y ∷ xs) zero zero x n = absurd (n refl)
get_set_other (y ∷ xs) zero (suc k) x n = refl
get_set_other (y ∷ xs) (suc i) zero x n = refl
get_set_other (y ∷ xs) (suc i) (suc k) x n = get_set_other xs i k x (λ e. n (ap suc e))

module _ (ls ms : List (Option (List Pair))) (i : ℕ) (xs : List Pair) (l : i < length ls) (set : ms ≡ slice_set ls i (Some xs)) where
  here : slice_get ms i ≡ Some (Some xs)
  here = ap (λ ys. slice_get ys i) set ∙ get_set_same ls i (Some xs) l

  there : (k : ℕ) → k ≢ i → slice_get ms k ≡ slice_get ls k
  there k n = ap (λ ys. slice_get ys k) set ∙ get_set_other ls i k (Some xs) n

  pub made_now : is_made ms i ≡ true
  made_now = ap (λ o. was_made o) here

  pub made_more : IsMore ls ms
  made_more k e = elim (same_or_other k i) [
    | inl d ↦ subst (λ j. is_made ms j ≡ true) (sym d) made_now
    | inr n ↦ ap (λ o. was_made o) (there k n) ∙ e
  ]

  -- each list is right where the new one is
  pub lists_more : (T : Table) (r : Rule) (ss : List Step) → IsListedStep T r ss i xs → AreLists T r ss ls → AreLists T r ss ms
  lists_more T r ss p a = record {
    count = ap length set ∙ length-set _ _ _ ∙ a.count;
    each = λ k m. elim (same_or_other k i) [
      | inl d ↦ subst (λ j. IsListedStep T r ss j (list_at ms j)) (sym d) (subst (IsListedStep T r ss i) (sym (ap (λ o. list_or_none o) here)) p)
      | inr n ↦ subst (IsListedStep T r ss k) (sym (ap (λ o. list_or_none o) (there k n))) (a.each k (sym (ap (λ o. was_made o) (there k n)) ∙ m))
    ];
  }

-- ---- the lists of operands

-- once a step's operands are needed, they were made before it
pub operands_made : (ss : List Step) (ns : List Bool) (ps : List (Option (List Pair))) (k : ℕ) → AreOrdered ss → AreWantedFrom 0 [] (steps_of ss) ns → MadeBelow ns k ps → k < length ss → IsNeeded ns k → AreOperandsMade ss ps k
operands_made ss ns ps k w a made l e j o =
    let n = inside ss in
    made j (w.earlier k (omega arith) j o) (a.below k (omega arith) (omega arith) e refl j o)

-- one more step was looked at
pub made_step : (ns : List Bool) (k : ℕ) (ps qs : List (Option (List Pair))) (b : Bool) → b ≡ slice_index_or ns k b → k < length ns → MadeBelow ns k ps → IsMore ps qs → (b ≡ true → is_made qs k ≡ true) → MadeBelow ns (k + 1) qs
made_step ns k ps qs b f within made more one j l = elim (same_or_other j k) [
  | inl d ↦ subst (λ i. IsNeeded ns i → is_made qs i ≡ true) (sym d) (λ e. one (f ∙ default ∙ e))
  | inr n ↦ λ e. more j (made j (omega arith) e)
]
  where
    default : slice_index_or ns k b ≡ slice_index_or ns k false
    default = same_default ns k b false within

-- ---- the list of a step

module _ (T : Table) (r : Rule) (ss : List Step) (ps : List (Option (List Pair))) (a : AreLists T r ss ps) where
  abbrev S : Pair → Pair → Type 0
  S = StandsFor T r

  abbrev of : ℕ → List Pair
  of k = step_pairs ss k

  -- what is kept of the pairs of a step whose operands were listed
  step_kept : (s : spec.Step) → ((j : ℕ) → IsOperand s j → is_made ps j ≡ true) → IsKeptBy S (dnf (step_test (tests_of (steps_of ss)) s)) (pairs_of (list_at ps) s)
  step_kept spec.Always m = kept_all (stands_in T r) (empty_pair ∷ [])
  step_kept spec.Never m = kept_all (stands_in T r) []
  step_kept (spec.Reads l) m = kept_all (stands_in T r) (record { cube = l ∷ []; targets = [] } ∷ [])
  step_kept (spec.Leads k) m = kept_all (stands_in T r) (later_pair k ∷ [])
  step_kept (spec.Both i j) m = kept_join (stands_in T r) (of i) (list_at ps i) (of j) (list_at ps j) (a.each i (m i (inl refl))).kept (a.each j (m j (inr refl))).kept
  step_kept (spec.Either i j) m = kept_append (stands_in T r) (of i) (list_at ps i) (of j) (list_at ps j) (a.each i (m i (inl refl))).kept (a.each j (m j (inr refl))).kept

  pub step_listed : {A : Type 0} (f : Fulfilment A) (k : ℕ) (s : Step) (xs ys : List Pair) → AreOrdered ss → IsFit T r f → k < length ss → s ≡ slice_index_or ss k s → AreOperandsMade ss ps k
      → set_of pair_cmp xs ≡ set_of pair_cmp (pairs_of (list_at ps) (step_of s)) → IsPruned r f xs ys → IsListedStep T r ss k ys
  step_listed f k s xs ys w fit l e made d p =
      let n = inside ss in
      let found : slice_index_or (steps_of ss) k spec.Always ≡ step_of s = step_found ss k s l e in
      let whole : dnf (step_test (tests_of (steps_of ss)) (step_of s)) ≡ of k = ap dnf (sym (test_whole (steps_of ss) w.earlier k (omega arith) ∙ ap (step_test (tests_of (steps_of ss))) found)) in
      let kept = step_kept (step_of s) (λ j o. made j (subst (λ x. IsOperand x j) (sym found) o)) in
      pruned_of T r f (of k) xs ys fit
      (subst (λ qs. IsKeptBy S qs xs) whole (kept_on (stands_in T r) (dnf (step_test (tests_of (steps_of ss)) (step_of s))) (pairs_of (list_at ps) (step_of s)) xs kept (kept_same (stands_in T r) (pairs_of (list_at ps) (step_of s)) xs d))) p
