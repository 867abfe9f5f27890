-- Whether a pair passes steps, one by one, and so fulfils until rows.
use Rattle.std.proofs.Common.{◌≡◌, ℕ, ◌+◌, ◌<◌, Bool, not, ◌||◌, false, arith, List, [], ◌∷◌, ◌++◌, length, map, take, sym, ◌∙◌, ap, subst, Some}
use Rattle.std.specs.Prelude.{slice_get, slice_index_or}
use Rattle.std.specs.Ordering.{nat_cmp}
use Rattle.std.proofs.lemmas.List.{length-append, length-map, length-take-le, map-append, take_more}
use Rattle.ltl_spec.specs.Collections.Sets.{Has, has}
use Rattle.ltl_spec.specs.NormalForms.Normal.{Bottom}
use Rattle.ltl_spec.specs.NormalForms.NormalForm.{until_rows}
use Rattle.ltl_spec.specs.Transitions.Pairs.{Pair}
use Rattle.ltl_spec.specs.Transitions.RowTransitions.{Table, is_marked, place}
use Rattle.ltl_spec.proofs.Collections.ListLaws.{Has-at}
use Rattle.ltl_spec.proofs.Transitions.IndependenceTests.{Support}
use Rattle.ltl_spec.proofs.Transitions.SupportTests.{AllTell, all_tell_next, step_leaves}
use Rattle.ltl_spec.proofs.Transitions.Fulfilment.{passes, until_test}
use Rattle.ltl_spec.proofs.Transitions.FulfilmentLaws.{marked_by_test}
use Rattle.ltl_spec.proofs.Transitions.JoinLaws.{IsConsistent}
use Rattle.ltl_spec.proofs.Transitions.StepLaws.{answer_at, answers_next, tests_length, tests_next}
use Rattle.ltl_spec.proofs.Transitions.Steps.{step_passes, step_test, test_at, tests_of}
use Rattle.ltl_alt.specs.Tests.{AreLeaves, AreTests, step_of, steps_of}
use Rattle.ltl_alt.specs.declared.fulfilment.Fulfilment.{Fulfilment}
use Rattle.ltl_alt.specs.declared.fulfilment.UntilTest.{UntilTest}
use Rattle.ltl_alt.specs.declared.program.Step.{Step}

steps_take : (ss : List Step) (k : ℕ) (s : Step) → k < length ss → s ≡ slice_index_or ss k s → steps_of (take (k + 1) ss) ≡ steps_of (take k ss) ++ step_of s ∷ []
steps_take ss k s l e = ap steps_of (take_more ss k s l ∙ ap (λ x. take k ss ++ x ∷ []) (sym e)) ∙ map-append step_of (take k ss) (s ∷ [])

-- one step more
pub answers_step : (p : Pair) (ss : List Step) (k : ℕ) (s : Step) (old new : List Bool) (c : Bool) → k < length ss → s ≡ slice_index_or ss k s → new ≡ old ++ c ∷ [] → c ≡ step_passes p old (step_of s)
    → old ≡ map (passes p) (tests_of (steps_of (take k ss))) → new ≡ map (passes p) (tests_of (steps_of (take (k + 1) ss)))
answers_step p ss k s old new c l e f g h =
    let d : c ≡ step_passes p (map (passes p) (tests_of (steps_of (take k ss)))) (step_of s) = g ∙ ap (λ o. step_passes p o (step_of s)) h in
    f ∙ (λ i. h i ++ d i ∷ []) ∙ sym (answers_next p (steps_of (take k ss)) (step_of s)) ∙ ap (λ xs. map (passes p) (tests_of xs)) (sym (steps_take ss k s l e))

-- what one step more speaks of
pub leaves_step : (ss : List Step) (k : ℕ) (s : Step) (old new : List Support) (v : Support) → k < length ss → s ≡ slice_index_or ss k s → new ≡ old ++ v ∷ [] → v ≡ step_leaves old (step_of s)
    → AreLeaves (take k ss) old → AreLeaves (take (k + 1) ss) new
leaves_step ss k s old new v l e f g w =
    let before = steps_of (take k ss) in
    let all : steps_of (take (k + 1) ss) ≡ before ++ step_of s ∷ [] = steps_take ss k s l e in
    let long : length old ≡ length (tests_of before) = w.count ∙ sym (tests_length before ∙ length-map (take k ss) step_of) in
    let told = all_tell_next old (tests_of before) long w.tell (step_of s) in
    let tests : tests_of (steps_of (take (k + 1) ss)) ≡ tests_of before ++ step_test (tests_of before) (step_of s) ∷ [] = ap tests_of all ∙ tests_next before (step_of s) in
    record {
      count =
          let a = length-take-le k ss (omega arith) in
          let b = length-take-le (k + 1) ss (omega arith) in
          let c = ap length f in
          let d = length-append old (v ∷ []) in
          let m = w.count in
          omega arith;
      tell = subst (AllTell new) (sym tests) (subst (λ xs. AllTell xs (tests_of before ++ step_test (tests_of before) (step_of s) ∷ [])) (sym (f ∙ ap (λ x. old ++ x ∷ []) g)) told);
    }

-- whether a pair puts an until row off, by the answer of the row's test
pub marked_by_answer : {A : Type 0} (T : Table) (f : Fulfilment A) (tests : AreTests T f) (p : Pair) → IsConsistent p → (answers : List Bool) → answers ≡ map (passes p) (tests_of (steps_of f.steps.items)) → (i : ℕ) (u : UntilTest) → slice_get f.untils.items i ≡ Some u
    → i < length T.untils → (not (has nat_cmp u.place p.targets) || slice_index_or answers u.step false) ≡ is_marked T p (slice_index_or T.untils i Bottom)
marked_by_answer {A} T f tests p consistent answers e i u found l =
    let F = slice_index_or T.untils i Bottom in
    let t = tests.each i u found in
    let ts = tests_of (steps_of f.steps.items) in
    let there : Has (until_rows tests.core) F = subst (λ (X : Table). Has X.untils F) tests.is_table (Has-at T.untils i Bottom l) in
    let test : test_at ts u.step ≡ until_test (place T) F = t.test in
    let passed : slice_index_or answers u.step false ≡ passes p (until_test (place T) F) = ap (λ bs. slice_index_or bs u.step false) e ∙ answer_at p ts u.step ∙ ap (passes p) test in
    let law : is_marked T p F ≡ (not (has nat_cmp (place T F) p.targets) || passes p (until_test (place T) F)) =
    subst (λ X. is_marked X p F ≡ (not (has nat_cmp (place X F) p.targets) || passes p (until_test (place X) F))) (sym tests.is_table) (marked_by_test tests.core F there p consistent) in
    (λ j. not (has nat_cmp (t.place_of j) p.targets) || passed j) ∙ sym law
