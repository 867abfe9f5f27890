use Rattle.std.proofs.Common.{refl}
use Rattle.ltl_claim_hoa.proofs.TextLaws.{statement_written}
use Rattle.ltl_claim_hoa.proofs.moves.put_statement.Goals as goal

pub returns : goal.returns
returns g c = λ P is.
    statement_written P c.args.claim.now is c.args.i _ c.accepting.result c.moves.result.now _ _ _ c.requires refl c.accepting.ensures c.moves.ensures c.in_ok-put_state.ensures c.in_ok-put_moves.ensures
