use Rattle.std.proofs.Common.{◌≡◌, ◌≤◌, length}
use Rattle.ltl_alt.specs.WantedView.{AreWantedBelow}
use Rattle.ltl_alt.proofs.wanted.want_below.Given as goal

abbrev pub invariant-steps : goal.invariant-steps
invariant-steps g l = record {
  within : l.left ≤ length l.fulfilment.steps.items;
  count : length l.wanted.items ≡ length l.fulfilment.steps.items;
  lacks : length l.lacks.items ≡ length l.fn.lacks.items;
  wanted : AreWantedBelow l.fulfilment l.columns l.fn.wanted.items l.left l.wanted.items l.lacks.items;
}

abbrev pub decreases-steps : goal.decreases-steps
decreases-steps g l = l.left
