use Rattle.std.proofs.Common.{arith, rules}
use Rattle.ltl_automaton.specs.CodedEdges.{edges_in, labelled_edge_of}
use Rattle.ltl_automaton.specs.EdgeView.{edge_of}
use Rattle.ltl_reduce.specs.StateBased.{level_in}
use Rattle.ltl_reduce.proofs.StateBasedLaws.{agree_all, agrees_next}
use Rattle.ltl_reduce.proofs.state_based.edges_agree.Goals as goal

pub loop-k-preserved : goal.loop-k-preserved
loop-k-preserved g c =
    agrees_next c.args.automaton.now.sets c.sets.result (level_in c.args.levels.now) c.args.s c.args.accepting (edges_in c.edges-edges.result) c.loop-k.k (edge_of c.get.result) c.sets.ensures.count c.loop-k.invariant c.get.ensures
    (c.agrees.ensures (search rules))

pub returns : goal.returns
returns g c = λ _.
    agree_all c.args.automaton.now (level_in c.args.levels.now) c.args.s c.args.accepting (labelled_edge_of c.edges-edges.result.labels) c.edges-edges.result.coded.now c.loop-k.k c.edges-edges.ensures
    (omega (arith, c.len-k-end.ensures, c.loop-k-test.false)) c.loop-k.invariant
