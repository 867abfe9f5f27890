use Rattle.std.proofs.Common.{◌-◌, ◌<◌, ◌≤◌, ℕ, length}
use Rattle.ltl_word.specs.LeastView.{Repeats}
use Rattle.ltl_word.proofs.least.shortest.Given as goal

abbrev pub invariant-lengths : goal.invariant-lengths
invariant-lengths l = record {
  some : 0 < l.d;
  most : l.d ≤ length l.cycle;
  earlier : (k : ℕ) → 0 < k → k < l.d → ¬ (Repeats l.cycle k);
}

abbrev pub decreases-lengths : goal.decreases-lengths
decreases-lengths l = length l.cycle - l.d
