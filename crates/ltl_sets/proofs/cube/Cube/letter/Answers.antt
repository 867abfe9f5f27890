use Rattle.ltl_sets.proofs.CubeLaws.{letter_literals}
use Rattle.ltl_sets.proofs.cube.Cube.letter.Goals as goal

pub returns : goal.returns
returns c = rw (← c.self.view_is) (letter_literals c.self.inside.positive c.self.inside.negative)
