use Rattle.ltl_reduce.specs.Reduction.{IsReductionOf}
use Rattle.ltl_reduce.proofs.reducing.reduce.Given as goal

abbrev pub invariant-loop-round : goal.invariant-loop-round
invariant-loop-round g l = IsReductionOf l.fn.automaton 0 l.current
