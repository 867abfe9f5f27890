use Rattle.std.proofs.Common.{◌≡◌, ◌++◌, take}
use Rattle.std.specs.Prelude.{filter_map}
use Rattle.ltl_spec.specs.Collections.Sets.{set_of}
use Rattle.ltl_spec.specs.Transitions.Cubes.{cube_cmp, join_cubes}
use Rattle.ltl_label.proofs.joins.widened.Given as goal

abbrev pub invariant-cubes : goal.invariant-cubes
invariant-cubes g l = set_of cube_cmp (l.others ++ l.made.items) ≡ set_of cube_cmp (l.others ++ filter_map (λ c. join_cubes c l.literals) (take l.cube-index l.cubes))
