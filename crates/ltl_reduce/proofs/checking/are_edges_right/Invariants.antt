use Rattle.ltl_automaton.specs.CodedEdges.{edges_in}
use Rattle.ltl_reduce.proofs.CheckLaws.{AreRightTo}
use Rattle.ltl_reduce.proofs.checking.are_edges_right.Given as goal

abbrev pub invariant-loop-k : goal.invariant-loop-k
invariant-loop-k g l = AreRightTo l.automaton.sets l.frees l.s (edges_in l.edges) l.k
