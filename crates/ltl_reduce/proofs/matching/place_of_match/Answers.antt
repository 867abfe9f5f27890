use Rattle.ltl_automaton.specs.CodedEdges.{edges_in}
use Rattle.ltl_automaton.specs.EdgeView.{edge_of}
use Rattle.ltl_reduce.proofs.CheckLaws.{match_has}
use Rattle.ltl_reduce.proofs.matching.place_of_match.Goals as goal

pub returns-then-matches-clause-found : goal.returns-then-matches-clause-found
returns-then-matches-clause-found c = match_has c.args.relation.now c.args.free (edge_of c.args.edge.now) (edge_of c.get.result) (edges_in c.args.others.now) _ c.get.ensures (c.matches.ensures c.if-matches.true)
