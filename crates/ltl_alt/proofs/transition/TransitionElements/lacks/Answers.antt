use Rattle.std.proofs.Common.{◌∙◌}
use Rattle.ltl_alt.proofs.ImpliedLaws.{nothing_unmarked}
use Rattle.ltl_alt.proofs.transition.TransitionElements.lacks.Goals as goal

pub returns-then-kind-ne0 : goal.returns-then-kind-ne0
returns-then-kind-ne0 c = c.empty.ensures ∙ nothing_unmarked c.args.self.now c.args.kind c.args.of.now c.if-kind-ne0.true
