use Rattle.std.proofs.Common.{◌≡◌, length, take}
use Rattle.ltl_alt.proofs.NeedsLaws.{AreRootsNeeded}
use Rattle.ltl_alt.proofs.needs.needed_steps.Given as goal

abbrev pub invariant-roots : goal.invariant-roots
invariant-roots g l = record {
  count : length l.needed.items ≡ length l.steps;
  roots : AreRootsNeeded (take l.k l.roots) l.needed.items;
}
