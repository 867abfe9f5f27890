use Rattle.std.proofs.Common.{◌≡◌, ◌<◌, ◌∙◌, arith, length, subst, sym}
use Rattle.std.specs.Prelude.{slice_index_or}
use Rattle.ltl_spec.specs.Collections.Sets.{Has}
use Rattle.ltl_spec.specs.NormalForms.Normal.{Bottom}
use Rattle.ltl_alt.specs.NeedsView.{AreNeeded}
use Rattle.ltl_alt.specs.Steps.{AreOrdered}
use Rattle.ltl_alt.specs.Subprograms.{HasTests, IsPart}
use Rattle.ltl_alt.specs.Tests.{AreLeaves, IsUntilTest}
use Rattle.ltl_alt.specs.TransitionView.{table_at}
use Rattle.ltl_alt.proofs.SubprogramLaws.{has_tests, roots_inside}
use Rattle.ltl_alt.proofs.TestLaws.{tests_end, tests_push}
use Rattle.ltl_alt.proofs.TransitionLaws.{untils_count}
use Rattle.ltl_alt.proofs.fulfilment.Fulfilment.of.Goals as goal

pub needed_steps-requires-clause-inside : goal.needed_steps-requires-clause-inside
needed_steps-requires-clause-inside g c = λ k h.
    let t = c.args.table.now in
    let inside = roots_inside t c.args.program.now.steps.keys (length t.untils) c.in_ok-tests.tests.items c.in_ok-tests.ensures k (subst (λ xs. Has xs k) c.as_slice.ensures.value h) in
    subst (λ xs. k < length xs) (sym c.steps-whole.ensures) inside

pub until_test-requires-clause-part : goal.until_test-requires-clause-part
until_test-requires-clause-part g c =
    let t = c.args.table.now in
    let ss = c.args.program.now.steps.keys in
    let tests = c.in_ok-tests.tests.items in
    let needed = c.in_ok-needed.needed.items in
    let kept = c.in_ok-part.part.steps.keys in
    let numbers = c.in_ok-part.part.numbers.items in
    let asked = subst (λ xs. AreNeeded ss xs needed) c.as_slice.ensures.value (subst (λ xs. AreNeeded xs c.as_slice.result.now needed) c.steps-whole.ensures c.in_ok-needed.ensures) in
    let part = subst (λ xs. IsPart ss xs (length ss) kept numbers) c.as_slice-2.ensures.value (subst (λ xs. IsPart xs c.as_slice-2.result.now (length xs) kept numbers) c.steps-whole.ensures c.in_ok-part.ensures) in
    subst (λ xs. HasTests (table_at t) xs kept numbers) (sym c.as_slice-in-untils.ensures.value)
    (has_tests t ss tests needed kept numbers (length t.untils) (sym (untils_count t c.invariant.ensures)) c.in_ok-tests.ensures asked part)

pub untils-preserved : goal.untils-preserved
untils-preserved g c =
    let T = table_at c.args.table.now in
    let n = c.untils.number in
    let u = c.until_test.result in
    tests_push T c.in_ok-steps.steps.items n c.untils.untils.items c.push.new.self.items u c.in_ok-push.ensures.items
    (subst (λ ss. IsUntilTest T ss u (slice_index_or T.untils n Bottom)) (sym (c.in_ok-steps.ensures.items ∙ c.as_slice-3.ensures)) c.until_test.ensures) c.untils.invariant

pub returns : goal.returns
returns g c =
    let t = c.args.table.now in
    let all = c.until_count-number-end.ensures.count in
    let end : c.untils.number ≡ length t.untils = omega arith in
    tests_end t c.in_ok-steps.steps.items c.in_ok-leaves.leaves.items c.untils.number c.untils.untils.items c.invariant.ensures (subst AreOrdered (sym (c.in_ok-steps.ensures.items ∙ c.as_slice-3.ensures)) c.in_ok-part.ensures.ordered)
    (subst (λ ss. AreLeaves ss c.in_ok-leaves.leaves.items) c.as_slice-4.ensures.value c.in_ok-leaves.ensures) end c.untils.invariant
