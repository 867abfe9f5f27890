use Rattle.std.proofs.Common.{ℕ}
use Rattle.ltl_spec.specs.Collections.Sets.{Has}
use Rattle.ltl_alt.specs.CountedView.{AreClosed}
use Rattle.ltl_alt.proofs.counted.round.Given as goal

abbrev pub invariant-rows : goal.invariant-rows
invariant-rows g l = record {
  more : (k : ℕ) → Has l.counted k → Has l.next k;
  closed : AreClosed l.table l.next l.needed l.k;
}
