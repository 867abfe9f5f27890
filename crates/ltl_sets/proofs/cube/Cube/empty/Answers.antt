use Rattle.ltl_sets.proofs.CubeLaws.{literals_empty}
use Rattle.ltl_sets.proofs.cube.Cube.empty.Goals as goal

pub returns : goal.returns
returns c = literals_empty
