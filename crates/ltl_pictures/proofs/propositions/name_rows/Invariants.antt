use Rattle.std.proofs.Common.{◌≡◌, ◌<◌, ℕ, [], length, map}
use Rattle.std.specs.Prelude.{IsTrue, slice_index_or}
use Rattle.ltl_spec.specs.Collections.Sets.{has}
use Rattle.ltl_spec.specs.Semantics.Word.{letter_at, name_cmp}
use Rattle.ltl_word.specs.LassoView.{size}
use Rattle.ltl_word.specs.Rows.{IsRow}
use Rattle.ltl_pictures.specs.Timeline.{name_at}
use Rattle.ltl_pictures.proofs.propositions.name_rows.Given as goal

abbrev pub invariant-loop-p : goal.invariant-loop-p
invariant-loop-p g l = record {
  count : length l.rows.items ≡ l.p;
  rows : (p : ℕ) → p < length l.rows.items → IsRow (size l.word) (λ i. IsTrue (has name_cmp (name_at (map (λ n. n.now) l.names) p) (letter_at l.word i))) (slice_index_or l.rows.items p []);
}
