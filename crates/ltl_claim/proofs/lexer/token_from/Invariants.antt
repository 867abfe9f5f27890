use Rattle.std.proofs.Common.{◌≡◌, ◌≤◌, ◌-◌, length}
use Rattle.ltl_claim.specs.LexerView.{items_at}
use Rattle.ltl_claim.proofs.lexer.token_from.Given as goal

abbrev pub invariant-bytes : goal.invariant-bytes
invariant-bytes l = record {
  within : l.at ≤ length l.text;
  rest : items_at l.text l.at ≡ items_at l.text l.fn.at;
}

abbrev pub decreases-bytes : goal.decreases-bytes
decreases-bytes l = length l.text - l.at
