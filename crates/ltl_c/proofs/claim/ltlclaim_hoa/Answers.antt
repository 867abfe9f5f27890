use Rattle.std.proofs.Common.{◌∙◌, List, ℕ, subst}
use Rattle.ltl_c.specs.Calls.{Delivers}
use Rattle.ltl_c.proofs.ClaimLaws.{claim_handed, claim_refused}
use Rattle.ltl_c.proofs.claim.ltlclaim_hoa.Goals as goal

pub returns-in-Ok : goal.returns-in-Ok
returns-in-Ok c =
    claim_handed c.args.claim.now c.no_claim_refusal.result c.args.buffer.now c.deliver.new.buffer c.deliver.new.count c.deliver.result c.in-Ok.hoa.items c.in-Ok.ensures c.no_claim_refusal.ensures
    (subst (λ (t : List ℕ). Delivers 0 t c.args.buffer.now c.deliver.new.buffer c.deliver.new.count c.deliver.result) c.as_slice.ensures.value c.deliver.ensures)

pub returns-in-Err : goal.returns-in-Err
returns-in-Err c =
    claim_refused c.args.claim.now c.claim_code_of.result c.args.buffer.now c.deliver-in-Err.new.buffer c.deliver-in-Err.new.count c.deliver-in-Err.result c.in-Err.reason c.in-Err.ensures c.claim_code_of.ensures c.number.result
    (c.number.ensures ∙ c.status.ensures) c.deliver-in-Err.ensures
