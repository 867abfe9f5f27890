use Rattle.std.proofs.Common.{drop, map}
use Rattle.std.specs.List.{flat_map}
use Rattle.ltl_spec.specs.Automata.GeneralizedText.{marked_edge_line}
use Rattle.ltl_automaton.specs.CodedEdges.{edges_in, labelled_edge_of}
use Rattle.ltl_streams.proofs.PrintLaws.{Lacks}
use Rattle.ltl_text.proofs.states.put_edges.Given as goal

abbrev pub invariant-loop-edge : goal.invariant-loop-edge
invariant-loop-edge g l =
    Lacks g.S.ByteSink.state l.fn.output l.output
    (flat_map marked_edge_line (map (labelled_edge_of l.edges.labels) (drop l.edge-index l.edges.coded.now))) (flat_map marked_edge_line (edges_in l.edges))
