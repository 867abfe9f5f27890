use Rattle.std.proofs.Common.{◌≡◌, ◌≤◌, ◌-◌, length, take, map}
use Rattle.ltl_spec.specs.Transitions.RowTransitions as spec
use Rattle.ltl_alt.specs.TransitionView.{table_at}
use Rattle.ltl_alt.proofs.marks.marked.Given as goal

abbrev pub invariant-slices : goal.invariant-slices
invariant-slices g l = record {
  within : l.from ≤ length l.pairs;
  marked : l.all.items ≡ map (spec.with_marks (table_at l.table)) (take l.from l.pairs);
}

abbrev pub decreases-slices : goal.decreases-slices
decreases-slices g l = length l.pairs - l.from
