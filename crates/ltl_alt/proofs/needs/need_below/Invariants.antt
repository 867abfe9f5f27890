use Rattle.std.proofs.Common.{ℕ, ◌≤◌, [], length}
use Rattle.ltl_spec.proofs.Transitions.WantedSteps.{AreWantedFrom}
use Rattle.ltl_alt.specs.NeedsView.{IsNeeded}
use Rattle.ltl_alt.specs.Tests.{steps_of}
use Rattle.ltl_alt.proofs.needs.need_below.Given as goal

abbrev pub invariant-steps : goal.invariant-steps
invariant-steps g l = record {
  within : l.k ≤ length l.steps;
  from : AreWantedFrom l.k [] (steps_of l.steps) l.needed.items;
  more : (i : ℕ) → IsNeeded l.fn.needed.items i → IsNeeded l.needed.items i;
}

abbrev pub decreases-steps : goal.decreases-steps
decreases-steps g l = l.k
