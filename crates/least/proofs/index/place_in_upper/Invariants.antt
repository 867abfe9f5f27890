use Rattle.std.proofs.Common.{◌≡◌, ◌+◌, ◌*◌, ◌<◌, false, length}
use Rattle.std.specs.List.{AllByRecursion}
use Rattle.least.specs.Blocks.{part_at}
use Rattle.least.specs.Lookups.{is_above}
use Rattle.least.proofs.SearchLaws.{IsDoneBut}
use Rattle.least.proofs.index.place_in_upper.Given as goal

abbrev pub invariant-candidates : goal.invariant-candidates
invariant-candidates g l = record {
  low : AllByRecursion (λ b. b < 256) l.rest;
  done : IsDoneBut (λ b. is_above g.T.Below.below (g.C.Counting.counts l.counting) (part_at (256 * l.number + b) l.items) l.item ≡ false) l.initial.rest l.rest;
}

abbrev pub decreases-candidates : goal.decreases-candidates
decreases-candidates g l = length l.rest
