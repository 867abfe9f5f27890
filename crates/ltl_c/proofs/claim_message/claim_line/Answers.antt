use Rattle.std.proofs.Common.{◌∙◌, ◌++◌, ap, codes}
use Rattle.ltl_claims.specs.Refusals.{refusal_of}
use Rattle.ltl_c.proofs.ClaimLaws as law
use Rattle.ltl_c.proofs.claim_message.claim_line.Goals as goal

pub returns : goal.returns
returns c =
    law.claim_line (refusal_of c.args.refusal) _ _ _ (c.put.ensures ∙ ap (λ x. x ++ codes "ltlclaim: ") c.new-line.ensures) c.put_refusal.ensures.put c.put-2.ensures
