use Rattle.std.proofs.Common.{ℕ, ◌<◌}
use Rattle.ltl_reduce.specs.Matching.{AreEdgesRight}
use Rattle.ltl_reduce.proofs.checking.are_right.Given as goal

abbrev pub invariant-loop-s : goal.invariant-loop-s
invariant-loop-s g l = (s : ℕ) → s < l.s → AreEdgesRight l.automaton l.frees s
