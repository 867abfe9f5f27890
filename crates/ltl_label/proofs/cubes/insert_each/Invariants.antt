use Rattle.std.proofs.Common.{◌≡◌, ◌++◌, take}
use Rattle.ltl_spec.specs.Collections.Sets.{set_of}
use Rattle.ltl_spec.specs.Transitions.Cubes.{cube_cmp}
use Rattle.ltl_label.proofs.cubes.insert_each.Given as goal

abbrev pub invariant-more : goal.invariant-more
invariant-more g l = set_of cube_cmp l.cubes.items ≡ set_of cube_cmp (l.initial.cubes.items ++ take l.cube-index l.more)
