-- The tests of until rows of a table.
use Rattle.std.proofs.Common.{◌≡◌, ℕ, zero, suc, ◌+◌, ◌<◌, ◌⊎◌, inl, inr, List, [], ◌∷◌, ◌++◌, length, refl, sym, ◌∙◌, ap, subst, arith, Some}
use Rattle.std.specs.Prelude.{slice_get, slice_index_or}
use Rattle.std.proofs.lemmas.List.{length-append}
use Rattle.ltl_spec.specs.NormalForms.Normal.{Bottom}
use Rattle.ltl_spec.specs.Transitions.RowTransitions.{Table, place}
use Rattle.ltl_spec.proofs.Transitions.IndependenceTests.{Support}
use Rattle.ltl_spec.proofs.Transitions.Fulfilment.{until_test}
use Rattle.ltl_formula.specs.TableView.{TableView, IsTable, core_of, row_tree}
use Rattle.ltl_alt.specs.Steps.{AreOrdered, IsStepOf}
use Rattle.ltl_alt.specs.Subprograms.{HasTests, number_at}
use Rattle.ltl_alt.specs.Tests.{AreLeaves, AreTestsOf, IsUntilTest}
use Rattle.ltl_alt.specs.TransitionView.{table_at}
use Rattle.ltl_alt.specs.declared.fulfilment.UntilTest.{UntilTest}
use Rattle.ltl_alt.specs.declared.program.Step.{Step}
use Rattle.ltl_alt.proofs.RowLaws.{untils_few}
use Rattle.ltl_alt.proofs.TransitionLaws.{until_tree, untils_count}

-- ---- one by one

-- the tests of the first until rows
pub record AreTestsSoFar (T : Table) (ss : List Step) (n : ℕ) (us : List UntilTest) : Type 0 where
  pub count : length us ≡ n
  pub each : (i : ℕ) (u : UntilTest) → slice_get us i ≡ Some u → IsUntilTest T ss u (slice_index_or T.untils i Bottom)

pub tests_push : (T : Table) (ss : List Step) (n : ℕ) (us more : List UntilTest) (u : UntilTest) → more ≡ us ++ u ∷ [] → IsUntilTest T ss u (slice_index_or T.untils n Bottom) → AreTestsSoFar T ss n us → AreTestsSoFar T ss (n + 1) more
tests_push T ss n us more u e t w = subst (AreTestsSoFar T ss (n + 1)) (sym e) (record {
  count = let a = length-append us (u ∷ []) in let b = w.count in omega arith;
  each = λ i v f. elim (at_end us u v i f) [
    | inl (g, l) ↦ w.each i v g
    | inr (d, s) ↦ subst (λ x. IsUntilTest T ss x (slice_index_or T.untils i Bottom)) (sym s) (subst (λ j. IsUntilTest T ss u (slice_index_or T.untils j Bottom)) (sym (d ∙ w.count)) t)
  ];
})
  where
    at_end : (xs : List UntilTest) (y v : UntilTest) (i : ℕ) → slice_get (xs ++ y ∷ []) i ≡ Some v → (slice_get xs i ≡ Some v) × (i < length xs) ⊎ ((i ≡ length xs) × (v ≡ y))
    at_end [] y v zero f = inr (refl, cc)
    at_end [] y v (suc i) f = cc
    at_end (x ∷ xs) y v zero f = inl (f, omega arith)
    at_end (x ∷ xs) y v (suc i) f = elim (at_end xs y v i f) [ inl (g, l) ↦ inl (g, omega arith) | inr (d, s) ↦ inr (ap suc d, s) ]

pub tests_end : (t : TableView) (ss : List Step) (ls : List Support) (n : ℕ) (us : List UntilTest) → IsTable t → AreOrdered ss → AreLeaves ss ls → n ≡ length t.untils → AreTestsSoFar (table_at t) ss n us → AreTestsOf (table_at t) ss ls us
tests_end t ss ls n us w steps leaves e so_far = record {
  core = core_of t;
  is_table = refl;
  earlier = steps.earlier;
  leaves = leaves;
  few = let a = untils_few t w in let b = so_far.count in omega arith;
  count = let a = untils_count t w in so_far.count ∙ e ∙ sym a;
  each = so_far.each;
}

-- the test of an until row
pub until_test_is : (t : TableView) (ss : List Step) (tests numbers : List ℕ) (i k at x : ℕ) → IsTable t → HasTests (table_at t) tests ss numbers → slice_get t.untils i ≡ Some k → at ≡ place (table_at t) (row_tree t k)
    → x ≡ number_at numbers (number_at tests i) → i < length t.untils → IsUntilTest (table_at t) ss (record { place = at; step = x }) (slice_index_or (table_at t).untils i Bottom)
until_test_is t ss tests numbers i k at x w has e d g l =
    let c = untils_count t w in
    let made = has i (omega arith) in
    let q = subst (λ n. IsStepOf ss n (until_test (place (table_at t)) (slice_index_or (table_at t).untils i Bottom))) (sym g) made in
    record { place_of = d ∙ ap (place (table_at t)) (sym (until_tree t i k w e)); below = q.below; test = q.test }
