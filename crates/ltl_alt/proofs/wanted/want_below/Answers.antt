use Rattle.std.proofs.Common.{◌≡◌, ◌<◌, ◌+◌, ◌-◌, ◌∙◌, [], ap, arith, length, refl, subst}
use Rattle.std.specs.Prelude.{slice_index_or}
use Rattle.ltl_spec.proofs.Transitions.IndependenceTests.{no_support}
use Rattle.ltl_alt.specs.Columns.{answers_at}
use Rattle.ltl_alt.specs.WantedView.{AreWantedBelow}
use Rattle.ltl_alt.specs.Tests.{step_of}
use Rattle.ltl_alt.proofs.NeedsLaws.{same_default}
use Rattle.ltl_alt.proofs.WantedLaws.{AreFailing, back_begins, failing_at, none_back, none_has, operands_count, some_back}
use Rattle.ltl_alt.proofs.wanted.want_below.Goals as goal

pub steps-init : goal.steps-init
steps-init g c =
    let f = c.args.fulfilment.now in
    let cs = c.args.columns.now in
    let ws = c.args.wanted.now.items in
    let d = c.len-left.ensures in
    let e : c.len-left.result ≡ length f.steps.items = omega arith in
    record {
      within = omega arith;
      count = c.requires;
      lacks = refl;
      wanted = λ j l. back_begins f (answers_at j cs) (answers_at j ws) c.len-left.result (slice_index_or c.args.lacks.now.items j no_support) e;
    }

pub steps-preserved-then-not-is_subset : goal.steps-preserved-then-not-is_subset
steps-preserved-then-not-is_subset g c =
    let f = c.args.fulfilment.now in
    let cs = c.args.columns.now in
    let ws = c.steps.wanted.items in
    let k = c.steps.left - 1 in
    let s = c.index-step.result.now in
    let js = c.without-failing.result in
    let within = c.steps.invariant.within in
    let some = c.steps-test.true in
    let inside : k < length f.steps.items = omega (arith, within, some) in
    let next : c.steps.left ≡ k + 1 = omega (arith, some) in
    let is : s ≡ slice_index_or f.steps.items k s = c.index-step.ensures ∙ same_default f.steps.items k _ s inside in
    let failing : AreFailing cs ws k js =
    failing_at cs ws k c.column_at-in-steps.result c.column_at.result js c.column_at-in-steps.ensures (c.column_at.ensures ∙ ap (λ xs. slice_index_or xs k []) c.as_slice.ensures.value) c.without-failing.ensures in
    record {
      within = omega (arith, within);
      count = ap length c.want_operands.ensures ∙ operands_count ws js (step_of s) ∙ c.steps.invariant.count;
      lacks = c.lack_leaf.ensures.count ∙ c.steps.invariant.lacks;
      wanted = some_back f cs c.args.wanted.now.items ws c.steps.left k c.steps.lacks.items next inside js failing c.steps.invariant.wanted s c.want_operands.new.wanted.items c.leaves.result c.lack_leaf.new.lacks.items
          is c.want_operands.ensures c.leaves.ensures c.lack_leaf.ensures;
    }

pub steps-preserved : goal.steps-preserved
steps-preserved g c =
    let f = c.args.fulfilment.now in
    let cs = c.args.columns.now in
    let ws = c.steps.wanted.items in
    let k = c.steps.left - 1 in
    let js = c.without-failing.result in
    let within = c.steps.invariant.within in
    let some = c.steps-test.true in
    let inside : k < length f.steps.items = omega (arith, within, some) in
    let next : c.steps.left ≡ k + 1 = omega (arith, some) in
    let failing : AreFailing cs ws k js =
    failing_at cs ws k c.column_at-in-steps.result c.column_at.result js c.column_at-in-steps.ensures (c.column_at.ensures ∙ ap (λ xs. slice_index_or xs k []) c.as_slice.ensures.value) c.without-failing.ensures in
    record {
      within = omega (arith, within);
      count = c.steps.invariant.count;
      lacks = c.steps.invariant.lacks;
      wanted = none_back f cs c.args.wanted.now.items ws c.steps.left k c.steps.lacks.items next inside js failing c.steps.invariant.wanted
          (none_has js c.is_subset.result c.empty.result c.empty.ensures c.is_subset.ensures c.if-not-is_subset.false);
    }

pub returns-clause-wanted : goal.returns-clause-wanted
returns-clause-wanted g c =
    let none : c.steps.left ≡ 0 = omega (arith, c.steps-test.false) in
    subst (λ n. AreWantedBelow c.args.fulfilment.now c.args.columns.now c.args.wanted.now.items n c.steps.wanted.items c.steps.lacks.items) none c.steps.invariant.wanted
