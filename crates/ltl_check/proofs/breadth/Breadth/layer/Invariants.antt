use Rattle.std.proofs.Common.{◌-◌, ◌≡◌}
use Rattle.ltl_check.specs.Breadth.{StandsOn, IsPaid}
use Rattle.ltl_check.proofs.breadth.Breadth.layer.Given as goal

abbrev pub invariant-layer : goal.invariant-layer
invariant-layer g l = record {
  stands : StandsOn (g.N.Numbered.net l.net) l.task l.self;
  end : l.self.end ≡ l.fn.self.end;
  depth : l.self.depth ≡ l.fn.self.depth;
  paid : IsPaid (g.N.Numbered.looked_of l.fn.looks) (g.N.Numbered.looked_of l.looks) l.fn.self.left l.self.left;
}

abbrev pub decreases-layer : goal.decreases-layer
decreases-layer g l = l.self.end - l.self.at
