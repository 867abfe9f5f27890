use Rattle.std.proofs.Common.{length}
use Rattle.least.specs.Lookups.{is_found}
use Rattle.least.proofs.SearchLaws.{IsClearAt, IsDoneBut}
use Rattle.least.proofs.index.place_in_block.Given as goal

abbrev pub invariant-candidates : goal.invariant-candidates
invariant-candidates g l = IsDoneBut (IsClearAt (is_found g.T.Below.below (g.C.Counting.counts l.counting) l.item) l.part) l.initial.rest l.rest

abbrev pub decreases-candidates : goal.decreases-candidates
decreases-candidates g l = length l.rest
