use Rattle.std.proofs.Common.{length, ◌-◌, ◌≡◌, ◌≤◌, take}
use Rattle.ltl_check.specs.Explored.{OneOf}
use Rattle.ltl_check.proofs.search.place_of.Given as goal

abbrev pub invariant-places : goal.invariant-places
invariant-places l = record {
  within : l.i ≤ length l.stem;
  absent : OneOf (λ t. t.state ≡ l.n) (take l.i l.stem) → ⊥;
}

abbrev pub decreases-places : goal.decreases-places
decreases-places l = length l.stem - l.i
