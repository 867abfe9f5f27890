use Rattle.ltl_check.specs.Breadth.{IsPaid}
use Rattle.ltl_check.proofs.path_search.PathSearch.expand.Given as goal

abbrev pub invariant-loop-k : goal.invariant-loop-k
invariant-loop-k g l = IsPaid (g.N.Numbered.looked_of l.fn.looks) (g.N.Numbered.looked_of l.looks) l.fn.left l.left
