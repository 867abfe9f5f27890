use Rattle.std.proofs.Common.{◌≡◌, length}
use Rattle.ltl_word.specs.Evaluation.{AreRows}
use Rattle.ltl_word.proofs.evaluation.holds.Given as goal

abbrev pub invariant-loop-i : goal.invariant-loop-i
invariant-loop-i g l = record {
  count : length l.rows.items ≡ l.i;
  rows : AreRows l.formula l.word l.names.items l.uses.items l.rows.items;
}
