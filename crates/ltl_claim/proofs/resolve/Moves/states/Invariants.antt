use Rattle.ltl_spec.specs.Claims.ClaimProgram.{Program}
use Rattle.ltl_claim.specs.ResolveView.{AreStates, IsProgramOf}
use Rattle.ltl_claim.proofs.resolve.Moves.states.Given as goal

abbrev pub invariant-statements : goal.invariant-statements
invariant-statements g l = (P : Program) → IsProgramOf P l.self.ways → AreStates P l.self.names l.marks l.i l.states.items
