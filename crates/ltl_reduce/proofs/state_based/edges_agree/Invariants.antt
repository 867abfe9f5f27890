use Rattle.ltl_automaton.specs.CodedEdges.{edges_in}
use Rattle.ltl_reduce.specs.StateBased.{Agrees, level_in}
use Rattle.ltl_reduce.proofs.CheckLaws.{AllTo}
use Rattle.ltl_reduce.proofs.state_based.edges_agree.Given as goal

abbrev pub invariant-loop-k : goal.invariant-loop-k
invariant-loop-k g l = AllTo (Agrees l.automaton.sets (level_in l.levels) l.s l.accepting) (edges_in l.edges) l.k
