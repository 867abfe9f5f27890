use Rattle.std.proofs.Common.{◌≡◌, ◌<◌, ℕ, [], length, map}
use Rattle.std.specs.Prelude.{slice_index_or}
use Rattle.ltl_spec.specs.Collections.Sets.{set_of}
use Rattle.ltl_spec.specs.Semantics.Word.{name_cmp}
use Rattle.ltl_word.specs.NameView.{ArePlaces}
use Rattle.ltl_word.proofs.making.all_places.Given as goal

abbrev pub invariant-loop-i : goal.invariant-loop-i
invariant-loop-i g l = record {
  count : length l.rows.items ≡ l.i;
  each : (k : ℕ) → k < length l.rows.items → ArePlaces (map (λ n. n.now) l.names) (set_of name_cmp (slice_index_or (map (λ a. map (λ n. n.now) a.items) l.letters) k [])) (slice_index_or l.rows.items k []);
}
