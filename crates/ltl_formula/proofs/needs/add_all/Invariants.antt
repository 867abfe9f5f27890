use Rattle.std.proofs.Common.{◌≤◌, length}
use Rattle.ltl_formula.specs.NeedsView.{IsWider, AreClosedFrom}
use Rattle.ltl_formula.proofs.needs.add_all.Given as goal

abbrev pub invariant-nodes : goal.invariant-nodes
invariant-nodes g l = record {
  inside : l.i ≤ length l.needs;
  wider : IsWider (length l.formula.nodes) l.fn.needs l.needs;
  closed : AreClosedFrom l.i l.formula.nodes l.needs;
}

abbrev pub decreases-nodes : goal.decreases-nodes
decreases-nodes g l = l.i
