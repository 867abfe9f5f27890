use Rattle.std.proofs.Common.{◌≡◌, ◌≤◌, map, length}
use Rattle.ltl_spec.specs.Tools.Limits.{stated_limits}
use Rattle.ltl_spec.proofs.NormalForms.SharedNodes.{tree_at}
use Rattle.ltl_spec.proofs.NormalForms.RowsCollected.{IsWalking, AreFlags, work}
use Rattle.ltl_formula.specs.WalkView.{task_of}
use Rattle.ltl_formula.proofs.walk.row_numbers.Given as goal

abbrev pub invariant-work : goal.invariant-work
invariant-work g l = record {
  long : length l.flags.items ≡ length l.graph.nodes;
  few : length l.listed.items ≤ stated_limits.rows;
  flags : AreFlags l.flags.items l.listed.items;
  walking : IsWalking (tree_at l.graph.nodes) (length l.graph.nodes) l.root (map task_of l.stack.items) l.listed.items;
}

abbrev pub decreases-work : goal.decreases-work
decreases-work g l = work (tree_at l.graph.nodes) (map task_of l.stack.items)
