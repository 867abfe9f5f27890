use Rattle.std.proofs.Common.{arith}
use Rattle.ltl_automaton.specs.CodedEdges.{edges_in, labelled_edge_of}
use Rattle.ltl_reduce.specs.Matching.{IsMatched}
use Rattle.ltl_reduce.proofs.CheckLaws.{to_all}
use Rattle.ltl_reduce.proofs.matching.Matching.are_matched.Goals as goal

pub returns : goal.returns
returns c = λ _. to_all (λ e. IsMatched c.args.self.now c.args.s e (edges_in c.args.others.now)) (labelled_edge_of c.args.edges.now.labels) c.args.edges.now.coded.now c.loop-k.k (omega (arith, c.len-k-end.ensures, c.loop-k-test.false)) c.loop-k.invariant
