use Rattle.std.proofs.Common.{map}
use Rattle.ltl_reduction.proofs.PlanLaws.{passes_planned}
use Rattle.ltl_reduction.proofs.command.plan.Goals as goal

pub returns : goal.returns
returns c = passes_planned (map (λ w. w.now) c.args.words.now) _ _ c.in_ok-matches.ensures.passes c.in_ok-matches.ensures.rows c.planned.ensures
