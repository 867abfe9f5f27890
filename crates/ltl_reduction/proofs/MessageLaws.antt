-- The length of a message.
use Rattle.std.proofs.Common.{◌<◌, length, arith}
use Rattle.ltl_spec.specs.Tools.Refusal.{Refusal}
use Rattle.ltl_reduction.specs.Messages.{reduce_message}

-- a line has a byte
pub line_long : (r : Refusal) → 0 < length (reduce_message r)
line_long r = omega arith
