use Rattle.ltl_claim_hoa.proofs.TextLaws.{statements_more}
use Rattle.ltl_claim_hoa.proofs.hoa.put_statements.Goals as goal

pub states-preserved : goal.states-preserved
states-preserved g c = λ P is. statements_more P c.args.claim.now is c.states.i _ _ _ (c.states.invariant P is) (c.in_ok-put_statement.ensures P is)
