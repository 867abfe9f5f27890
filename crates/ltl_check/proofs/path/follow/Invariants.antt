use Rattle.ltl_check.specs.Breadth.{IsPaid}
use Rattle.ltl_check.specs.Paths.{IsPathWith}
use Rattle.ltl_check.proofs.path.follow.Given as goal

abbrev pub invariant-loop-i : goal.invariant-loop-i
invariant-loop-i g l = record {
  path : IsPathWith (g.N.Numbered.net l.net) l.fn.from l.steps.items l.end l.marks;
  paid : IsPaid (g.N.Numbered.looked_of l.fn.looks) (g.N.Numbered.looked_of l.looks) l.fn.left l.left;
}
