use Rattle.std.proofs.Common.{◌≡◌, ◌<◌, ◌∙◌, length, arith, subst}
use Rattle.std.specs.Prelude.{slice_index_or}
use Rattle.ltl_alt.specs.Columns.{IsStepColumn}
use Rattle.ltl_alt.specs.Tests.{step_of}
use Rattle.ltl_alt.proofs.ColumnLaws.{columns_step}
use Rattle.ltl_alt.proofs.NeedsLaws.{same_default}
use Rattle.ltl_alt.proofs.columns.put_columns.Goals as goal

pub steps-preserved : goal.steps-preserved
steps-preserved g c = λ ps w.
    let ss = c.args.fulfilment.now.steps.items in
    let k = c.steps.k in
    let s = c.index-step.result.now in
    let inside : k < length ss = omega arith in
    let is : s ≡ slice_index_or ss k s = c.index-step.ensures ∙ same_default ss k _ s inside in
    columns_step ps ss k s c.steps.columns.items c.push.new.self.items c.step_column-column.result inside is c.in_ok-push.ensures.items
    (subst (λ cs. IsStepColumn ps cs (step_of s) c.step_column-column.result) c.as_slice.ensures.value (c.step_column-column.ensures ps w)) (c.steps.invariant ps w)
