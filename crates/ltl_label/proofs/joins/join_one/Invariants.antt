use Rattle.std.proofs.Common.{◌≡◌, ◌++◌, take}
use Rattle.std.specs.Prelude.{filter_map}
use Rattle.ltl_spec.specs.Transitions.Cubes.{join_cubes}
use Rattle.ltl_label.proofs.joins.join_one.Given as goal

abbrev pub invariant-right : goal.invariant-right
invariant-right g l = l.joined.items ≡ l.initial.joined.items ++ filter_map (join_cubes l.left) (take l.cube-index l.right)
