use Rattle.std.proofs.Common.{◌≡◌, map}
use Rattle.ltl_automaton.specs.CodedEdges.{coded_edge_of}
use Rattle.ltl_automaton.specs.LabelTables.{ranked_edge}
use Rattle.ltl_automaton.proofs.RelabelLaws.{replaced}
use Rattle.ltl_automaton.proofs.ranks.Ranks.relabel.Given as goal

abbrev pub invariant-loop-i : goal.invariant-loop-i
invariant-loop-i g l = map coded_edge_of l.edges ≡ replaced (ranked_edge l.self) l.i (map coded_edge_of l.initial.edges)
