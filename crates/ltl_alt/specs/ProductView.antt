-- Products of transitions of independent components.
use Rattle.std.specs.Prelude.{◌≡◌, false, List, Option, option_map}
use Rattle.std.specs.Ordering.{nat_cmp}
use Rattle.ltl_spec.specs.Collections.Sets.{Has, union}
use Rattle.ltl_spec.specs.Transitions.Cubes.{Cube, join_cubes, is_contradictory}
use Rattle.ltl_spec.specs.Transitions.RowTransitions.{Transition}
use Rattle.ltl_spec.proofs.Transitions.IndependentMarks.{common}

-- the union of two transitions, unless their literals contradict each other
abbrev pub join_transitions : Transition → Transition → Option Transition
join_transitions a b = option_map (λ (c : Cube). record { cube = c; targets = union nat_cmp a.targets b.targets; marks = common nat_cmp a.marks b.marks }) (join_cubes a.cube b.cube)

-- no transition contradicts itself
abbrev pub AreConsistent : List Transition → Type 0
AreConsistent ts = (t : Transition) → Has ts t → is_contradictory t.cube ≡ false
