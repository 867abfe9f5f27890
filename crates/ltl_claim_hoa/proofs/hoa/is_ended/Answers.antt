use Rattle.std.proofs.Common.{arith, refl, sym}
use Rattle.ltl_claim_hoa.proofs.TextLaws.{end_found, end_other}
use Rattle.ltl_claim_hoa.proofs.hoa.is_ended.Goals as goal

pub returns-then-lead_to : goal.returns-then-lead_to
returns-then-lead_to g c = λ P is.
    sym (end_found P c.args.claim.now is c.states.i _ c.moves.result.now c.len-end.result c.lead_to.result (omega arith) refl c.moves.ensures c.len-end.ensures.count c.lead_to.ensures c.if-lead_to.true)

pub states-preserved : goal.states-preserved
states-preserved g c = λ P is.
    end_other P c.args.claim.now is c.states.i _ c.moves.result.now c.len-end.result c.lead_to.result (omega arith) refl c.moves.ensures c.len-end.ensures.count c.lead_to.ensures c.if-lead_to.false (c.states.invariant P is)
