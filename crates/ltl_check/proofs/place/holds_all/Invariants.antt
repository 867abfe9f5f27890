use Rattle.std.proofs.Common.{◌-◌, ◌≡◌, ◌<◌, true, ℕ}
use Rattle.ltl_check.specs.Marks.{in_set}
use Rattle.ltl_check.proofs.place.holds_all.Given as goal

abbrev pub invariant-sets : goal.invariant-sets
invariant-sets l = (j : ℕ) → j < l.j → in_set l.marks j ≡ true

abbrev pub decreases-sets : goal.decreases-sets
decreases-sets l = l.sets - l.j
