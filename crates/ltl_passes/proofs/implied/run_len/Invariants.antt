use Rattle.std.proofs.Common.{◌≡◌, ℕ, length, true, ◌-◌, ◌<◌, ◌≤◌, slice_index_or}
use Rattle.std.specs.Prelude.{◌==◌}
use Rattle.ltl_passes.specs.declared.implied.RunEdge as made
use Rattle.ltl_passes.specs.Runs.{target_of}
use Rattle.ltl_passes.proofs.implied.run_len.Given as goal

abbrev pub invariant-run : goal.invariant-run
invariant-run l = record {
  within : l.len ≤ length l.order;
  same : (k : ℕ) (d : made.RunEdge) → k < l.len → (target_of (slice_index_or l.order k d) == l.target) ≡ true;
}

abbrev pub decreases-run : goal.decreases-run
decreases-run l = length l.order - l.len
