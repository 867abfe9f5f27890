use Rattle.std.proofs.Common.{◌≡◌, map}
use Rattle.ltl_spec.specs.Claims.ClaimProgram.{Program}
use Rattle.ltl_spec.specs.Claims.ClaimMachine.{statement_at}
use Rattle.ltl_claim.specs.ProgramView.{option_of}
use Rattle.ltl_claim.specs.ResolveView.{IsProgramOf}
use Rattle.ltl_claim.proofs.StateLaws.{AreMade}
use Rattle.ltl_claim.proofs.resolve.Moves.moves.Given as goal

abbrev pub invariant-options : goal.invariant-options
invariant-options g l = (P : Program) → IsProgramOf P l.self.ways → (statement_at P l.i).options ≡ map option_of l.options → AreMade P l.self.names l.i l.options l.j l.moves.items
