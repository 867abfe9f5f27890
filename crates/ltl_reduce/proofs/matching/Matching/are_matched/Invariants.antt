use Rattle.ltl_automaton.specs.CodedEdges.{edges_in}
use Rattle.ltl_reduce.proofs.CheckLaws.{AreMatchedTo}
use Rattle.ltl_reduce.proofs.matching.Matching.are_matched.Given as goal

abbrev pub invariant-loop-k : goal.invariant-loop-k
invariant-loop-k l = AreMatchedTo l.self l.s (edges_in l.edges) (edges_in l.others) l.k
