use Rattle.std.proofs.Common.{◌≡◌, ◌<◌, ℕ, false}
use Rattle.ltl_spec.specs.Automata.ClaimText as claim
use Rattle.ltl_text.proofs.label.skip_state.Given as goal

abbrev pub invariant-loop-k : goal.invariant-loop-k
invariant-loop-k g l = (j : ℕ) → j < l.k → claim.is_skip_state l.automaton j ≡ false
