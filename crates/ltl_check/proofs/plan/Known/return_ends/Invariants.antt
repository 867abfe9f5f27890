use Rattle.ltl_check.specs.Breadth.{IsPaid}
use Rattle.ltl_check.proofs.plan.Known.return_ends.Given as goal

abbrev pub invariant-loop-rest : goal.invariant-loop-rest
invariant-loop-rest g l = IsPaid (g.N.Numbered.looked_of l.fn.looks) (g.N.Numbered.looked_of l.looks) l.fn.left l.left
