use Rattle.std.proofs.Common.{length, ◌-◌, ◌≡◌, ◌≤◌, take}
use Rattle.ltl_check.specs.VerdictView.{letters_of}
use Rattle.ltl_check.proofs.checking.letters.Given as goal

abbrev pub invariant-steps : goal.invariant-steps
invariant-steps g l = record {
  within : l.i ≤ length l.steps.items;
  done : l.letters.items ≡ letters_of (take l.i l.steps.items);
}

abbrev pub decreases-steps : goal.decreases-steps
decreases-steps g l = length l.steps.items - l.i
