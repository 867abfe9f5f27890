use Rattle.std.proofs.Common.{◌≡◌, map, take}
use Rattle.ltl_claim.specs.ProgramView.{step_of}
use Rattle.ltl_claim.proofs.resolve.begins_with.Given as goal

abbrev pub invariant-steps : goal.invariant-steps
invariant-steps l = map step_of (take l.i l.first) ≡ map step_of (take l.i l.second)
