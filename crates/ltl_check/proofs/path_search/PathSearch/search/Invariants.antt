use Rattle.ltl_check.specs.Breadth.{IsPaid}
use Rattle.ltl_check.proofs.path_search.PathSearch.search.Given as goal

abbrev pub invariant-loop-at : goal.invariant-loop-at
invariant-loop-at g l = IsPaid (g.N.Numbered.looked_of l.fn.looks) (g.N.Numbered.looked_of l.looks) l.fn.left l.left
