use Rattle.std.proofs.Common.{◌≡◌, ◌++◌, ◌+◌, ◌*◌, length}
use Rattle.std.specs.Prelude.{flat_map}
use Rattle.ltl_spec.specs.Collections.Sets.{set_of}
use Rattle.ltl_spec.specs.Transitions.Cubes.{cube_cmp}
use Rattle.ltl_label.specs.CubesView.{joins}
use Rattle.ltl_label.proofs.joins.join.Given as goal

abbrev pub invariant-sides : goal.invariant-sides
invariant-sides g l =
    set_of cube_cmp (l.joined.items ++ flat_map (λ s. joins s.left.items s.right.items) l.waiting.items)
    ≡ set_of cube_cmp (joins l.fn.left.items l.fn.right.items)

abbrev pub decreases-sides : goal.decreases-sides
decreases-sides g l = 3 * l.partings + length l.waiting.items
