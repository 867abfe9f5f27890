use Rattle.std.proofs.Common.{◌-◌, ◌≤◌, length}
use Rattle.ltl_alt.specs.StandIns.{AreSpares}
use Rattle.ltl_alt.proofs.lacks.spares_of.Given as goal

abbrev pub invariant-rounds : goal.invariant-rounds
invariant-rounds g l = record {
  within : l.from ≤ length l.pairs;
  spares : AreSpares l.fulfilment l.roots l.pairs l.spares.items;
}

abbrev pub decreases-rounds : goal.decreases-rounds
decreases-rounds g l = length l.pairs - l.from
