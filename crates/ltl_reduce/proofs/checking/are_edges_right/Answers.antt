use Rattle.std.proofs.Common.{arith, rules}
use Rattle.ltl_automaton.specs.CodedEdges.{edges_in, labelled_edge_of}
use Rattle.ltl_automaton.specs.EdgeView.{edge_of}
use Rattle.ltl_reduce.proofs.CheckLaws.{right_edges, right_next}
use Rattle.ltl_reduce.proofs.checking.are_edges_right.Goals as goal

pub loop-k-preserved : goal.loop-k-preserved
loop-k-preserved g c = right_next c.args.automaton.now.sets c.sets.result c.args.frees.now c.args.s (edges_in c.edges-edges.result) c.loop-k.k (edge_of c.get.result) c.sets.ensures.count c.loop-k.invariant c.get.ensures (c.is_right.ensures (search rules))

pub returns : goal.returns
returns g c = λ _. right_edges c.args.automaton.now c.args.frees.now c.args.s (labelled_edge_of c.edges-edges.result.labels) c.edges-edges.result.coded.now c.loop-k.k c.edges-edges.ensures (omega (arith, c.len-k-end.ensures, c.loop-k-test.false)) c.loop-k.invariant
