use Rattle.std.proofs.Common.{take}
use Rattle.ltl_spec.proofs.Transitions.IndependenceTests.{Covers}
use Rattle.ltl_alt.proofs.support.Support.of.Given as goal

abbrev pub invariant-pairs : goal.invariant-pairs
invariant-pairs l = Covers l.support (take l.pair-index l.pairs)
