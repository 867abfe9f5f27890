use Rattle.ltl_claim.proofs.HeldLaws.{held_answers, held_taken, held_within, source_answers, source_taken}
use Rattle.ltl_claim.proofs.read.claim_read_from.Goals as goal

pub returns-in_err-text-clause-read : goal.returns-in_err-text-clause-read
returns-in_err-text-clause-read g c = source_answers c.from_residual.result c.in_err-text.field-0.0 c.from_residual.ensures.1 c.in_err-text.ensures.told (g.R.ByteSource.state c.args.source.now).rest

pub returns-in_err-text-clause-within : goal.returns-in_err-text-clause-within
returns-in_err-text-clause-within g c =
    held_within (g.R.ByteSource.state c.args.source.now).rest c.from_residual.result
    (source_answers c.from_residual.result c.in_err-text.field-0.0 c.from_residual.ensures.1 c.in_err-text.ensures.told (g.R.ByteSource.state c.args.source.now).rest)

pub returns-in_err-text-clause-taken : goal.returns-in_err-text-clause-taken
returns-in_err-text-clause-taken g c = source_taken c.from_residual.result c.in_err-text.field-0.0 c.from_residual.ensures.1 c.in_err-text.ensures.told _

pub returns-clause-read : goal.returns-clause-read
returns-clause-read g c =
    held_answers _ _ _ _ c.in_ok-text.ensures.read c.as_slice.ensures.value c.claim_of_text.result c.claim_of_text.ensures.answers c.claim_of_text.ensures.past

pub returns-clause-within : goal.returns-clause-within
returns-clause-within g c =
    held_within (g.R.ByteSource.state c.args.source.now).rest c.claim_of_text.result
    (held_answers _ _ _ _ c.in_ok-text.ensures.read c.as_slice.ensures.value c.claim_of_text.result c.claim_of_text.ensures.answers c.claim_of_text.ensures.past)

pub returns-clause-taken : goal.returns-clause-taken
returns-clause-taken g c = held_taken _ _ _ _ c.in_ok-text.ensures.read c.as_slice.ensures.value c.claim_of_text.result
