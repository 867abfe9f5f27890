use Rattle.std.proofs.Common.{◌≡◌, length}
use Rattle.ltl_word.specs.SubformulaRows.{AreFirstRows}
use Rattle.ltl_word.proofs.subformulas.subformula_rows.Given as goal

abbrev pub invariant-loop-i : goal.invariant-loop-i
invariant-loop-i g l = record {
  count : length l.rows.items ≡ l.i;
  rows : AreFirstRows l.formula l.word l.rows.items;
}
