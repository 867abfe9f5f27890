use Rattle.std.proofs.Common.{◌≡◌, ◌++◌, map, take}
use Rattle.ltl_claim.specs.ProgramView.{step_of}
use Rattle.ltl_claim.specs.ResolveView.{numbered}
use Rattle.ltl_claim.proofs.resolve.put_steps.Given as goal

abbrev pub invariant-steps : goal.invariant-steps
invariant-steps g l = l.guard.items ≡ l.fn.guard.items ++ map (numbered (map (λ k. k.now) l.names.keys)) (map step_of (take l.i l.steps))
