use Rattle.std.proofs.Common.{◌≡◌, ◌++◌, take}
use Rattle.std.specs.Prelude.{flat_map, filter_map}
use Rattle.ltl_spec.specs.Collections.Sets.{set_of}
use Rattle.ltl_spec.specs.Transitions.Cubes.{cube_cmp, join_cubes}
use Rattle.ltl_label.proofs.joins.join_each.Given as goal

abbrev pub invariant-left : goal.invariant-left
invariant-left g l = set_of cube_cmp l.joined.items ≡ set_of cube_cmp (l.initial.joined.items ++ flat_map (λ c. filter_map (join_cubes c) l.right) (take l.cube-index l.left))
