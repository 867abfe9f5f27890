use Rattle.ltl_claims.proofs.RunLaws.{claim_was, fault_was}
use Rattle.ltl_claims.proofs.claims.claim_from.Goals as goal

pub returns-in-Ok : goal.returns-in-Ok
returns-in-Ok g c =
    claim_was _ _ c.claim_read_from.result c.requires c.claim_read_from.ensures.read c.claim_read_from.ensures.failed c.claim_read_from.ensures.bounded c.claim_read_from.ensures.stage c.in-Ok.claim c.in-Ok.is

pub returns-in-Err : goal.returns-in-Err
returns-in-Err g c =
    rw c.of_claim.ensures
    (fault_was _ _ c.claim_read_from.result c.requires c.claim_read_from.ensures.read c.claim_read_from.ensures.failed c.claim_read_from.ensures.bounded c.claim_read_from.ensures.stage c.in-Err.fault c.in-Err.is)
