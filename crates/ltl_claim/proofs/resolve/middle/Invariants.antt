use Rattle.std.proofs.Common.{◌≡◌, ◌+◌, ◌≤◌, map, length, drop}
use Rattle.ltl_claim.specs.ProgramView.{step_of}
use Rattle.ltl_claim.specs.ResolveView.{wanted_of}
use Rattle.ltl_claim.proofs.MoveLaws.{EndsBy}
use Rattle.ltl_claim.proofs.resolve.middle.Given as goal

abbrev pub invariant-steps : goal.invariant-steps
invariant-steps l = record {
  within : l.at ≤ length l.steps;
  wanted : l.wanted ≡ wanted_of 1 (drop l.at (map step_of l.steps));
  few : l.wanted + l.at ≤ length l.steps + 1;
  ends : EndsBy (map step_of l.steps) l.at;
}

abbrev pub decreases-steps : goal.decreases-steps
decreases-steps l = l.at
