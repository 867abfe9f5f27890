-- The length of a message.
use Rattle.std.proofs.Common.{◌<◌, length, arith}
use Rattle.ltl_claims.specs.Refusals.{Refusal, claim_message}

-- a line has a byte
pub line_long : (r : Refusal) → 0 < length (claim_message r)
line_long r = omega arith
