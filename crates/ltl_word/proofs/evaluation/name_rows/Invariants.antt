use Rattle.std.proofs.Common.{◌≡◌, ◌<◌, ℕ, [], length}
use Rattle.std.specs.Prelude.{slice_index_or}
use Rattle.ltl_spec.specs.Formulas.Formula.{Proposition}
use Rattle.ltl_word.specs.Evaluation.{IsRowOf}
use Rattle.ltl_word.proofs.evaluation.name_rows.Given as goal

abbrev pub invariant-loop-p : goal.invariant-loop-p
invariant-loop-p g l = record {
  count : length l.rows.items ≡ l.p;
  rows : (p : ℕ) → p < length l.rows.items → IsRowOf l.formula.names l.word (Proposition p) (slice_index_or l.rows.items p []);
}
