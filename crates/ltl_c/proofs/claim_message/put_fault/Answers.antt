use Rattle.std.proofs.Common.{◌∙◌}
use Rattle.ltl_claim.specs.TokenView.{kind_of}
use Rattle.ltl_c.proofs.ClaimLaws as law
use Rattle.ltl_c.proofs.claim_message.put_fault.Goals as goal

pub returns-clause-put : goal.returns-clause-put
returns-clause-put c =
    law.fault_line c.args.at c.args.column (kind_of c.args.kind) c.args.line.now.items _ _ _ _ _ _ _ _ _
    (c.as_slice.ensures ∙ c.of.ensures) (c.as_slice-2.ensures ∙ c.of-2.ensures) (c.as_bytes.ensures.value ∙ c.text.ensures.text)
    c.put.ensures c.put-2.ensures c.put-3.ensures c.put-4.ensures c.put-5.ensures c.put-6.ensures
