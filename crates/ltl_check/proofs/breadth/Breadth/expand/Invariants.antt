use Rattle.ltl_check.specs.Breadth.{Expands, IsPaid, IsSameLayer}
use Rattle.ltl_check.proofs.breadth.Breadth.expand.Given as goal

abbrev pub invariant-looks : goal.invariant-looks
invariant-looks g l = record {
  expands : Expands (g.N.Numbered.net l.net) l.task l.self l.k;
  same : IsSameLayer l.fn.self l.self;
  paid : IsPaid (g.N.Numbered.looked_of l.fn.looks) (g.N.Numbered.looked_of l.looks) l.fn.self.left l.self.left;
}

abbrev pub decreases-looks : goal.decreases-looks
decreases-looks g l = l.self.left
