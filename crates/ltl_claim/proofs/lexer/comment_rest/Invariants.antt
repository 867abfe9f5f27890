use Rattle.std.proofs.Common.{◌≡◌, ◌+◌, ◌-◌, ◌≤◌, drop, length}
use Rattle.std.specs.Prelude.{option_map}
use Rattle.ltl_spec.specs.Claims.ClaimTokens as tokens
use Rattle.ltl_claim.proofs.lexer.comment_rest.Given as goal

abbrev pub invariant-bytes : goal.invariant-bytes
invariant-bytes l = record { within : l.at ≤ length l.text; rest : tokens.comment_rest l.text ≡ option_map (λ n. n + l.at) (tokens.comment_rest (drop l.at l.text)) }

abbrev pub decreases-bytes : goal.decreases-bytes
decreases-bytes l = length l.text - l.at
