use Rattle.ltl_alt.proofs.SpareLaws.{needs_negative, needs_positive}
use Rattle.ltl_alt.proofs.support.needs.Goals as goal

pub returns-in-0 : goal.returns-in-0
returns-in-0 c = needs_positive c.args.cube.now c.args.targets.now c.args.kind c.letter.result c.in-0.is c.letter.ensures

pub returns-in-1 : goal.returns-in-1
returns-in-1 c = needs_negative c.args.cube.now c.args.targets.now c.args.kind c.forbidden.result c.in-1.is c.forbidden.ensures
