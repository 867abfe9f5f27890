use Rattle.std.proofs.Common.{◌-◌, ◌≡◌}
use Rattle.ltl_spec.specs.Construction.Levels as levels_of
use Rattle.ltl_automaton.proofs.level.next_level.Given as goal

abbrev pub invariant-climb : goal.invariant-climb
invariant-climb l = levels_of.climb (l.sets - l.reached) l.marks l.reached ≡ levels_of.next_level l.sets l.marks l.level

abbrev pub decreases-climb : goal.decreases-climb
decreases-climb l = l.sets - l.reached
