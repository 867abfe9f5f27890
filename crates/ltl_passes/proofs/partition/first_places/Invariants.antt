use Rattle.std.proofs.Common.{◌≤◌, length}
use Rattle.ltl_passes.specs.Partition.{IsFirstPlaces}
use Rattle.ltl_passes.proofs.partition.first_places.Given as goal

abbrev pub invariant-states : goal.invariant-states
invariant-states g l = record {
  within : l.s ≤ length l.signatures;
  firsts : IsFirstPlaces l.signatures l.count l.s l.firsts.items;
}

abbrev pub decreases-states : goal.decreases-states
decreases-states g l = l.s
