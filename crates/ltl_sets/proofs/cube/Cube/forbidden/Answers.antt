use Rattle.ltl_sets.proofs.CubeLaws.{forbidden_literals}
use Rattle.ltl_sets.proofs.cube.Cube.forbidden.Goals as goal

pub returns : goal.returns
returns c = rw (← c.self.view_is) (forbidden_literals c.self.inside.positive c.self.inside.negative)
