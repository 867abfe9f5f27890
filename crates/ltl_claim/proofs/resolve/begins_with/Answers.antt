use Rattle.std.proofs.Common.{◌∙◌, sym, false}
use Rattle.ltl_claim.specs.declared.program.NamedStep.TheVariants as step
use Rattle.ltl_claim.proofs.MoveLaws.{start_all, start_more, start_stop}
use Rattle.ltl_claim.proofs.resolve.begins_with.Goals as goal

pub returns-then-not-is_same-clause-other : goal.returns-then-not-is_same-clause-other
returns-then-not-is_same-clause-other c =
    start_stop c.args.first.now c.args.second.now c.requires c.steps.i (step.Constant false) c.steps-test.true (sym c.is_same.ensures ∙ c.if-not-is_same.true)

pub steps-preserved : goal.steps-preserved
steps-preserved c =
    start_more c.args.first.now c.args.second.now c.requires c.steps.i (step.Constant false) c.steps-test.true (sym c.is_same.ensures ∙ c.if-not-is_same.false) c.steps.invariant

pub returns-clause-same : goal.returns-clause-same
returns-clause-same c = λ _. start_all c.args.first.now c.args.second.now c.requires c.steps.i c.steps-test.false c.steps.auto.i-end c.steps.invariant
