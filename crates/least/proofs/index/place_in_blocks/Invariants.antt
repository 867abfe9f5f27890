use Rattle.std.proofs.Common.{◌≡◌, ◌<◌, false, ℕ}
use Rattle.least.specs.Blocks.{part_at}
use Rattle.least.specs.Lookups.{is_above}
use Rattle.least.proofs.index.place_in_blocks.Given as goal

abbrev pub invariant-numbers : goal.invariant-numbers
invariant-numbers g l = (n : ℕ) → n < l.number → is_above g.T.Below.below (g.C.Counting.counts l.counting) (part_at n l.items) l.item ≡ false
