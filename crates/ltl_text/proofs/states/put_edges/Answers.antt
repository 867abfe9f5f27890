use Rattle.std.proofs.Common.{◌<◌, arith, length}
use Rattle.ltl_spec.specs.Automata.GeneralizedText.{marked_edge_line}
use Rattle.ltl_automaton.specs.CodedEdges.{labelled_edge_of}
use Rattle.ltl_streams.proofs.PrintLaws.{lacks_step}
use Rattle.ltl_text.proofs.EdgeLaws.{no_edge}
use Rattle.ltl_text.proofs.HoaLaws.{edges_go_on}
use Rattle.ltl_text.proofs.states.put_edges.Goals as goal

pub loop-edge-preserved : goal.loop-edge-preserved
loop-edge-preserved g c =
    let lt : c.loop-edge.edge-index < length c.args.edges.coded.now = omega arith in
    lacks_step c.loop-edge.invariant _ (edges_go_on (labelled_edge_of c.args.edges.labels) marked_edge_line c.args.edges.coded.now c.loop-edge.edge-index no_edge _ lt c.edge.ensures) c.put_edge.ensures
