use Rattle.std.proofs.Common.{◌≡◌, ◌∙◌, ap, arith}
use Rattle.std.specs.Prelude.{slice_index_or}
use Rattle.ltl_alt.specs.TransitionView.{table_at}
use Rattle.ltl_alt.specs.declared.program.Step.TheVariants as step
use Rattle.ltl_alt.proofs.NeedsLaws.{same_default}
use Rattle.ltl_alt.proofs.StepListLaws.{step_listed}
use Rattle.ltl_alt.proofs.SubprogramLaws.{step_operands, step_small}
use Rattle.ltl_alt.proofs.step_lists.StepLists.list.Goals as goal

pub pairs_of-requires-clause-operands : goal.pairs_of-requires-clause-operands
pairs_of-requires-clause-operands g c =
    let ss = c.args.context.now.program.now.steps.keys in
    let k = c.args.step in
    let s = slice_index_or c.steps.result.now k step.Always in
    let is : s ≡ slice_index_or ss k s = ap (λ xs. slice_index_or xs k step.Always) c.steps.ensures ∙ same_default ss k step.Always s c.requires.within in
    λ j o.
    let l = step_operands ss c.requires.ordered k c.requires.within s is j o in
    let count = c.requires.lists.count in
    let within = c.requires.within in
    omega arith

pub pairs_of-requires-clause-small : goal.pairs_of-requires-clause-small
pairs_of-requires-clause-small g c =
    let ss = c.args.context.now.program.now.steps.keys in
    let k = c.args.step in
    let s = slice_index_or c.steps.result.now k step.Always in
    step_small ss c.requires.ordered k c.requires.within s (ap (λ xs. slice_index_or xs k step.Always) c.steps.ensures ∙ same_default ss k step.Always s c.requires.within)

pub returns : goal.returns
returns g c =
    let ss = c.args.context.now.program.now.steps.keys in
    let k = c.args.step in
    let s = slice_index_or c.steps.result.now k step.Always in
    let is : s ≡ slice_index_or ss k s = ap (λ xs. slice_index_or xs k step.Always) c.steps.ensures ∙ same_default ss k step.Always s c.requires.within in
    step_listed (table_at c.args.context.now.table.now) c.args.context.now.pruning.rule ss c.args.self.now.lists.items c.requires.lists c.args.context.now.pruning.fulfilment.now k s _ _
    c.requires.ordered c.requires.fit c.requires.within is c.requires.operands c.in_ok-all.ensures c.in_ok-pairs.ensures
