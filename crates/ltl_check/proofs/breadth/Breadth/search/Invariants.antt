use Rattle.std.proofs.Common.{◌-◌, ◌+◌, ◌<◌, ◌^◌}
use Rattle.ltl_check.specs.Breadth.{StandsOn, IsPaid}
use Rattle.ltl_check.proofs.breadth.Breadth.search.Given as goal

abbrev pub invariant-layers : goal.invariant-layers
invariant-layers g l = record {
  stands : StandsOn (g.N.Numbered.net l.net) l.task l.self;
  few : l.self.depth + 1 < 2 ^ 64;
  paid : IsPaid (g.N.Numbered.looked_of l.fn.looks) (g.N.Numbered.looked_of l.looks) l.fn.self.left l.self.left;
}

abbrev pub decreases-layers : goal.decreases-layers
decreases-layers g l = l.limit - l.self.depth
