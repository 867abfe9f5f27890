use Rattle.std.proofs.Common.{◌<◌, ℕ}
use Rattle.least.specs.Blocks.{AreClear}
use Rattle.least.specs.Lookups.{is_found}
use Rattle.least.proofs.index.place_in_uppers.Given as goal

abbrev pub invariant-numbers : goal.invariant-numbers
invariant-numbers g l = (s : ℕ) → s < l.number → AreClear (is_found g.T.Below.below (g.C.Counting.counts l.counting) l.item) l.items s
