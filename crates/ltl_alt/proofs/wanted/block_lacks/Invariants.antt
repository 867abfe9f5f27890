use Rattle.std.proofs.Common.{◌≡◌, length, take}
use Rattle.ltl_alt.specs.Tests.{steps_of}
use Rattle.ltl_alt.proofs.WantedLaws.{AreRootsWanted}
use Rattle.ltl_alt.proofs.wanted.block_lacks.Given as goal

abbrev pub invariant-roots : goal.invariant-roots
invariant-roots g l = record {
  count : length l.wanted.items ≡ length l.fulfilment.steps.items;
  wanted : AreRootsWanted (steps_of l.fulfilment.steps.items) l.block l.columns.items (take l.k l.roots) l.wanted.items;
}
