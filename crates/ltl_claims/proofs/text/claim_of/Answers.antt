use Rattle.std.proofs.Common.{List, ℕ, ap, subst, Some}
use Rattle.ltl_claim.specs.Reading.{AnswersHeld}
use Rattle.ltl_streams.specs.StageView.{stage_of}
use Rattle.ltl_claims.proofs.RunLaws.{claim_told, fault_told}
use Rattle.ltl_claims.proofs.text.claim_of.Goals as goal

pub returns-in-Ok : goal.returns-in-Ok
returns-in-Ok g c =
    claim_told c.args.text.now c.claim_read_from.result (subst (λ (t : List ℕ). AnswersHeld (Some t) c.claim_read_from.result) c.new-source.ensures.rest c.claim_read_from.ensures.read) c.in-Ok.claim c.in-Ok.is

pub returns-in-Err : goal.returns-in-Err
returns-in-Err g c =
    rw c.of_claim.ensures
    (fault_told c.args.text.now c.claim_read_from.result (subst (λ (t : List ℕ). AnswersHeld (Some t) c.claim_read_from.result) c.new-source.ensures.rest c.claim_read_from.ensures.read) c.in-Err.fault c.in-Err.is
    c.claim_read_from.new.source.stage (c.claim_read_from.ensures.stage (ap stage_of c.new-source.ensures.stage)) c.claim_read_from.new.source.unbroken)
