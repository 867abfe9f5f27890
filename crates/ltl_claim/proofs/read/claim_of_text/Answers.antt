use Rattle.std.proofs.Common.{map}
use Rattle.ltl_claim.proofs.ReadLaws.{built_nested, built_proper}
use Rattle.ltl_claim.proofs.read.claim_of_text.Goals as goal

pub claim_of-requires-clause-nested : goal.claim_of-requires-clause-nested
claim_of-requires-clause-nested g c =
    built_nested (Unit {0}) c.args.text.now c.in_ok-at.field-0 c.first_fault.new.parser c.in_default.not-Some c.in_ok-at.ensures c.into_parts-program.result.0 c.into_parts-program.ensures.program

pub claim_of-requires-clause-proper : goal.claim_of-requires-clause-proper
claim_of-requires-clause-proper g c =
    built_proper (Unit {0}) c.args.text.now c.in_ok-at.field-0 c.first_fault.new.parser c.in_default.not-Some c.in_ok-at.ensures (map (λ k. k.now) c.into_parts-program.result.1.keys) c.into_parts-program.ensures.names
