use Rattle.std.proofs.Common.{◌≡◌, ◌<◌, ℕ, map, take, length}
use Rattle.std.specs.Prelude.{slice_index}
use Rattle.ltl_spec.proofs.NormalForms.SharedNodes.{tree_at}
use Rattle.ltl_formula.specs.TableView.{AreOrdered, row_trees}
use Rattle.ltl_formula.proofs.places.numbered_rows.Given as goal

abbrev pub invariant-rows : goal.invariant-rows
invariant-rows g l = record {
  long : length l.places.items ≡ length l.graph.nodes;
  count : length l.rows.items ≡ l.place;
  placed : (j : ℕ) → j < l.place → slice_index l.places.items (slice_index l.numbers j) ≡ j;
  trees : row_trees l.rows.items ≡ map (tree_at l.graph.nodes) (take l.place l.numbers);
  ordered : AreOrdered l.rows.items;
}
