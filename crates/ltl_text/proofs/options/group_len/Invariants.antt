use Rattle.std.proofs.Common.{◌≡◌, ℕ, length, true, ◌-◌, ◌<◌, ◌≤◌, slice_index_or}
use Rattle.std.specs.Prelude.{◌==◌}
use Rattle.ltl_automaton.specs.CodedEdges.{edges_in}
use Rattle.ltl_models.specs.BaView.{target_at}
use Rattle.ltl_text.proofs.options.group_len.Given as goal

abbrev pub invariant-group : goal.invariant-group
invariant-group l = record {
  within : l.len ≤ length l.places;
  same : (k : ℕ) → k < l.len → (target_at (edges_in l.edges) (slice_index_or l.places k 0) == l.target) ≡ true;
}

abbrev pub decreases-group : goal.decreases-group
decreases-group l = length l.places - l.len
