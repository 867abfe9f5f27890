use Rattle.std.proofs.Common.{◌≡◌, ◌≤◌, ◌-◌, length}
use Rattle.ltl_syntax.specs.TokenView.{items_at}
use Rattle.ltl_syntax.proofs.lexer.after_blanks.Given as goal

abbrev pub invariant-blanks : goal.invariant-blanks
invariant-blanks l = record {
  within : l.at ≤ length l.text;
  rest : items_at l.text l.at ≡ items_at l.text l.fn.at;
}

abbrev pub decreases-blanks : goal.decreases-blanks
decreases-blanks l = length l.text - l.at
