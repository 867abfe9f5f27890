use Rattle.std.proofs.Common.{length}
use Rattle.ltl_claim.specs.ParserView.{coming}
use Rattle.ltl_claim.proofs.ReadLaws.{IsReached}
use Rattle.ltl_claim.proofs.read.take_all.Given as goal

abbrev pub invariant-tokens : goal.invariant-tokens
invariant-tokens g l = IsReached l.text l.parser (coming l.current l.lexer)

abbrev pub decreases-tokens : goal.decreases-tokens
decreases-tokens g l = length (coming l.current l.lexer)
