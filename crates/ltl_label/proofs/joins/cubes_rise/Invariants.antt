use Rattle.std.proofs.Common.{take}
use Rattle.ltl_spec.specs.Collections.Sets.{Has, IsRising}
use Rattle.ltl_spec.specs.Transitions.Cubes.{Cube, literal_cmp}
use Rattle.ltl_label.proofs.joins.cubes_rise.Given as goal

abbrev pub invariant-cubes : goal.invariant-cubes
invariant-cubes l = (c : Cube) → Has (take l.cube-index l.cubes) c → IsRising literal_cmp c
