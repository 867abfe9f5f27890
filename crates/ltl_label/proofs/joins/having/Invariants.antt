use Rattle.std.proofs.Common.{◌≡◌, take}
use Rattle.std.specs.Bool.{beq}
use Rattle.std.specs.List.{filter}
use Rattle.ltl_spec.specs.Collections.Sets.{is_subset}
use Rattle.ltl_spec.specs.Transitions.Cubes.{literal_cmp}
use Rattle.ltl_label.proofs.joins.having.Given as goal

abbrev pub invariant-cubes : goal.invariant-cubes
invariant-cubes g l = l.found.items ≡ filter (λ c. beq (is_subset literal_cmp l.literals c) l.all) (take l.cube-index l.cubes)
