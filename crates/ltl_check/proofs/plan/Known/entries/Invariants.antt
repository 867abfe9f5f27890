use Rattle.ltl_check.specs.Breadth.{IsPaid}
use Rattle.ltl_check.proofs.plan.Known.entries.Given as goal

abbrev pub invariant-loop-i : goal.invariant-loop-i
invariant-loop-i g l = IsPaid (g.N.Numbered.looked_of l.fn.looks) (g.N.Numbered.looked_of l.looks) l.fn.left l.left
