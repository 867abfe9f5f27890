-- The steps that some steps of a program need, and their new numbers.
use Rattle.std.proofs.Common.{◌≡◌, ℕ, suc, ◌+◌, ◌<◌, Bool, true, false, inl, inr, List, [], ◌∷◌, ◌++◌, length, refl, sym, ◌∙◌, ap, subst, arith, Some}
use Rattle.std.specs.Prelude.{slice_index_or}
use Rattle.std.proofs.lemmas.List.{length-append}
use Rattle.std.proofs.lemmas.Option.{slice_get-get_or}
use Rattle.ltl_spec.specs.Collections.Sets.{Has}
use Rattle.ltl_spec.proofs.Collections.ListLaws.{Has-at, index_append}
use Rattle.ltl_spec.proofs.Transitions.Steps.{IsOperand, step_test, tests_of}
use Rattle.ltl_spec.proofs.Transitions.WantedSteps.{AreWantedFrom, want_operands, wanted_open}
use Rattle.ltl_formula.specs.TableView.{TableView}
use Rattle.ltl_alt.specs.NeedsView.{AreNeeded, IsNeeded}
use Rattle.ltl_alt.specs.Steps.{AreOrdered, AreUntilSteps, IsGiven, IsNumbered, IsStepOf}
use Rattle.ltl_alt.specs.Subprograms.{HasTests, IsPart, number_at, renumbered}
use Rattle.ltl_alt.specs.Tests.{AreEarlier, HasOperands, IsSmall, step_of, steps_of, test_of}
use Rattle.ltl_alt.specs.TransitionView.{table_at}
use Rattle.ltl_alt.specs.declared.program.Step.{Step}
use Rattle.ltl_alt.specs.declared.program.Step.TheVariants as step
use Rattle.ltl_alt.proofs.MapLaws.{at_last}
use Rattle.ltl_alt.proofs.NeedsLaws.{needed_still, same_default, same_or_other}
use Rattle.ltl_alt.proofs.ProgramLaws.{both_given, either_given, grown_ordered, inside, step_found, test_whole}

-- ---- what is needed

-- one step back, where the operands of a needed one are needed
pub need_back : (ss : List Step) (k n : ℕ) (s : Step) (ns new : List Bool) → n ≡ k + 1 → k < length ss → s ≡ slice_index_or ss k s → AreEarlier (steps_of ss) → new ≡ want_operands ns (step_of s) → AreWantedFrom n [] (steps_of ss) ns
    → AreWantedFrom k [] (steps_of ss) new × ((i : ℕ) → IsNeeded ns i → IsNeeded new i)
need_back ss k n s ns new next l e earlier is a =
    let long = inside ss in
    let count = a.count in
    let found = step_found ss k s l e in
    let there : AreWantedFrom (k + 1) [] (steps_of ss) ns = subst (λ m. AreWantedFrom m [] (steps_of ss) ns) next a in
    let operands : HasOperands k (step_of s) = λ j o. earlier k (omega arith) j (subst (λ x. IsOperand x j) (sym found) o) in (
      subst (AreWantedFrom k [] (steps_of ss)) (sym (is ∙ ap (want_operands ns) (sym found))) (wanted_open [] (steps_of ss) k ns there (omega arith) (earlier k (omega arith))),
      λ i h. subst (λ xs. IsNeeded xs i) (sym is) (needed_still ns k (omega arith) (step_of s) operands i h),
    )

-- ---- one step

module _ (ss : List Step) (w : AreOrdered ss) (k : ℕ) (l : k < length ss) where
  pub step_operands : (s : Step) → s ≡ slice_index_or ss k s → HasOperands k (step_of s)
  step_operands s e j o = let n = inside ss in w.earlier k (omega arith) j (subst (λ x. IsOperand x j) (sym (step_found ss k s l e)) o)

  pub step_small : (s : Step) → s ≡ slice_index_or ss k s → IsSmall s
  step_small s e = w.small k s (slice_get-get_or ss k s l ∙ ap Some (sym e))

  step_is : (s : Step) → s ≡ slice_index_or ss k s → test_of ss k ≡ step_test (tests_of (steps_of ss)) (step_of s)
  step_is s e = let n = inside ss in test_whole (steps_of ss) w.earlier k (omega arith) ∙ ap (step_test (tests_of (steps_of ss))) (step_found ss k s l e)

  -- the step that was renumbered has the same test
  module _ (needed : List Bool) (a : AreWantedFrom 0 [] (steps_of ss) needed) (old : List Step) (numbers : List ℕ) (part : IsPart ss needed k old numbers) (on : IsNeeded needed k) where
    operand_kept : (s : Step) → s ≡ slice_index_or ss k s → (j : ℕ) → IsOperand (step_of s) j → IsStepOf old (number_at numbers j) (test_of ss j)
    operand_kept s e j o =
        let n = inside ss in
        part.same j (step_operands s e j o) (a.below k (omega arith) (omega arith) on refl j (subst (λ x. IsOperand x j) (sym (step_found ss k s l e)) o))

    kept_step : (new : List Step) (x : ℕ) (s : Step) → s ≡ slice_index_or ss k s → IsGiven old new x (renumbered numbers s) → IsNumbered old new x (test_of ss k)
    kept_step new x step.Always e g = subst (IsNumbered old new x) (sym (step_is step.Always e)) (g part.ordered tt (λ j o. absurd o))
    kept_step new x step.Never e g = subst (IsNumbered old new x) (sym (step_is step.Never e)) (g part.ordered tt (λ j o. absurd o))
    kept_step new x (step.Reads m) e g = subst (IsNumbered old new x) (sym (step_is (step.Reads m) e)) (g part.ordered (step_small (step.Reads m) e) (λ j o. absurd o))
    kept_step new x (step.Leads m) e g = subst (IsNumbered old new x) (sym (step_is (step.Leads m) e)) (g part.ordered (step_small (step.Leads m) e) (λ j o. absurd o))
    kept_step new x (step.Both i j) e g = subst (IsNumbered old new x) (sym (step_is (step.Both i j) e))
        (both_given old new (number_at numbers i) (number_at numbers j) x (test_of ss i) (test_of ss j) g part.ordered (operand_kept (step.Both i j) e i (inl refl)) (operand_kept (step.Both i j) e j (inr refl)))
    kept_step new x (step.Either i j) e g = subst (IsNumbered old new x) (sym (step_is (step.Either i j) e))
        (either_given old new (number_at numbers i) (number_at numbers j) x (test_of ss i) (test_of ss j) g part.ordered (operand_kept (step.Either i j) e i (inl refl)) (operand_kept (step.Either i j) e j (inr refl)))

-- one step more
pub part_more : (ss : List Step) (needed : List Bool) (k : ℕ) (s : Step) (b : Bool) (old new : List Step) (numbers more : List ℕ) (x : ℕ) → AreOrdered ss → AreWantedFrom 0 [] (steps_of ss) needed → k < length ss → s ≡ slice_index_or ss k s
    → b ≡ slice_index_or needed k b → (b ≡ true → IsGiven old new x (renumbered numbers s)) → (b ≡ false → new ≡ old) → more ≡ numbers ++ x ∷ [] → IsPart ss needed k old numbers → IsPart ss needed (k + 1) new more
part_more ss needed k s b old new numbers more x w a l is known given kept pushed part = at b refl
  where
    inside_needed : k < length needed
    inside_needed = let c = a.count in let n = inside ss in omega arith

    told : slice_index_or needed k false ≡ b
    told = sym (known ∙ same_default needed k b false inside_needed)

    long : length numbers ≡ k
    long = part.count

    last : number_at more k ≡ x
    last = ap (λ xs. number_at xs k) pushed ∙ at_last numbers x 0 k (sym long)

    before : (j : ℕ) → j < k → number_at more j ≡ number_at numbers j
    before j m = ap (λ xs. number_at xs j) pushed ∙ index_append numbers (x ∷ []) j 0 (omega arith)

    count : length more ≡ k + 1
    count = let c = ap length pushed ∙ length-append numbers (x ∷ []) in omega arith

    at : (c : Bool) → b ≡ c → IsPart ss needed (k + 1) new more
    at true e =
        let on : IsNeeded needed k = told ∙ e in
        let step_kept = kept_step ss w k l needed a old numbers part on new x s is (given e) in
        record {
          count = count;
          ordered = grown_ordered old new step_kept.grown;
          same = λ j m h. elim (same_or_other j k) [
            | inl d ↦ subst (λ y. IsStepOf new (number_at more y) (test_of ss y)) (sym d) (subst (λ y. IsStepOf new y (test_of ss k)) (sym last) step_kept.step)
            | inr n ↦
                let i : j < k = omega arith in
                subst (λ y. IsStepOf new y (test_of ss j)) (sym (before j i)) (step_kept.grown.stays (number_at numbers j) (test_of ss j) (part.same j i h))
          ];
        }
    at false e =
        let same : new ≡ old = kept e in
        record {
          count = count;
          ordered = subst AreOrdered (sym same) part.ordered;
          same = λ j m h. elim (same_or_other j k) [
            | inl d ↦ absurd (off (sym (told ∙ e) ∙ subst (IsNeeded needed) d h))
            | inr n ↦
                let i : j < k = omega arith in
                subst (λ xs. IsStepOf xs (number_at more j) (test_of ss j)) (sym same) (subst (λ y. IsStepOf old y (test_of ss j)) (sym (before j i)) (part.same j i h))
          ];
        }
      where
        off : false ≡ true → ⊥
        off d = cc

-- ---- the tests of until rows

-- roots are numbers of steps
pub roots_inside : (t : TableView) (ss : List Step) (n : ℕ) (ks : List ℕ) → AreUntilSteps (table_at t) ss n ks → (k : ℕ) → Has ks k → k < length ss
roots_inside t ss n ks w k h =
    let (i, l, e) = Has-index ks k h in
    let c = w.count in
    subst (λ x. x < length ss) e (w.each i (omega arith)).below
  where
    Has-index : (xs : List ℕ) (x : ℕ) → Has xs x → (i : ℕ) × (i < length xs) × (slice_index_or xs i 0 ≡ x)
    Has-index [] x z = absurd z
    Has-index (y ∷ xs) x (inl e) = (0, omega arith, sym e)
    Has-index (y ∷ xs) x (inr m) = let (i, l, e) = Has-index xs x m in (i + 1, omega arith, later y xs i ∙ e)
      where
        later : (y : ℕ) (xs : List ℕ) (i : ℕ) → slice_index_or (y ∷ xs) (i + 1) 0 ≡ slice_index_or xs i 0
        later y xs i = let d : i + 1 ≡ suc i = omega arith in ap (λ n. slice_index_or (y ∷ xs) n 0) d

-- the part has the test of each until row
pub has_tests : (t : TableView) (ss : List Step) (tests : List ℕ) (needed : List Bool) (kept : List Step) (numbers : List ℕ) (n : ℕ) → n ≡ length (table_at t).untils → AreUntilSteps (table_at t) ss n tests → AreNeeded ss tests needed
    → IsPart ss needed (length ss) kept numbers → HasTests (table_at t) tests kept numbers
has_tests t ss tests needed kept numbers n e w a part i l =
    let c = w.count in
    let made = w.each i (omega arith) in
    let found = part.same (number_at tests i) made.below (a.asked (number_at tests i) (Has-at tests i 0 (omega arith))) in
    subst (IsStepOf kept (number_at numbers (number_at tests i))) made.test found
