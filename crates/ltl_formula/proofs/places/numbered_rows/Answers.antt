use Rattle.std.proofs.Common.{◌≡◌, ℕ, List, ap, length, subst, length-set, ◌∙◌}
use Rattle.std.specs.Prelude.{slice_index}
use Rattle.ltl_formula.specs.SharedNodesView.{node_of}
use Rattle.ltl_formula.specs.PlacesView.{renumbered}
use Rattle.ltl_formula.proofs.PlacesLemmas.{one_more, trees_next, ordered_next, placed_next}
use Rattle.ltl_formula.proofs.SmallLemmas.{set_there}
use Rattle.ltl_formula.proofs.places.numbered_rows.Goals as goal

pub rows-preserved : goal.rows-preserved
rows-preserved g c = record {
  long = ap length (set_there c.rows.places.items c.deref_mut.result.now (slice_index c.args.numbers.now c.rows.place) c.rows.place c.deref_mut.ensures.value) ∙ length-set c.rows.places.items (slice_index c.args.numbers.now c.rows.place) c.rows.place ∙ c.rows.invariant.long;
  count = one_more c.rows.rows.items _ _ c.rows.place c.in_ok-push.ensures.items c.rows.invariant.count;
  placed = placed_next c.args.graph.now.nodes c.len.ensures.constants.shared c.args.numbers.now c.requires c.rows.place c.rows-test.true c.rows.places.items c.rows.invariant.placed c.rows.rows.items c.rows.invariant.count c.rows.invariant.trees c.rows.invariant.ordered c.node.result c.placed.result c.node.ensures.found (subst (λ (ps : List ℕ). node_of c.placed.result ≡ renumbered (slice_index ps) (node_of c.node.result)) c.deref.ensures c.placed.ensures) c.rows.invariant.long _ (set_there c.rows.places.items c.deref_mut.result.now (slice_index c.args.numbers.now c.rows.place) c.rows.place c.deref_mut.ensures.value);
  trees = trees_next c.args.graph.now.nodes c.len.ensures.constants.shared c.args.numbers.now c.requires c.rows.place c.rows-test.true c.rows.places.items c.rows.invariant.placed c.rows.rows.items c.rows.invariant.count c.rows.invariant.trees c.rows.invariant.ordered c.node.result c.placed.result c.node.ensures.found (subst (λ (ps : List ℕ). node_of c.placed.result ≡ renumbered (slice_index ps) (node_of c.node.result)) c.deref.ensures c.placed.ensures) _ c.in_ok-push.ensures.items;
  ordered = ordered_next c.args.graph.now.nodes c.len.ensures.constants.shared c.args.numbers.now c.requires c.rows.place c.rows-test.true c.rows.places.items c.rows.invariant.placed c.rows.rows.items c.rows.invariant.count c.rows.invariant.trees c.rows.invariant.ordered c.node.result c.placed.result c.node.ensures.found (subst (λ (ps : List ℕ). node_of c.placed.result ≡ renumbered (slice_index ps) (node_of c.node.result)) c.deref.ensures c.placed.ensures) _ c.in_ok-push.ensures.items;
}
