use Rattle.std.proofs.Common.{◌≡◌, ◌++◌, take, map}
use Rattle.ltl_spec.specs.Transitions.RowTransitions as spec
use Rattle.ltl_alt.specs.TransitionView.{table_at}
use Rattle.ltl_alt.proofs.marks.mark_block.Given as goal

abbrev pub invariant-pairs : goal.invariant-pairs
invariant-pairs g l = l.all.items ≡ l.fn.all.items ++ map (spec.with_marks (table_at l.table)) (take l.index l.block)
