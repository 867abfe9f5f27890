use Rattle.ltl_automaton.proofs.EdgeLaws.{edges_sorted}
use Rattle.ltl_automaton.proofs.shared.sort.Goals as goal

pub returns : goal.returns
returns g c = edges_sorted g.E.EdgeType.edge_of g.E.ListOrder.order g.met.E.EdgeType.ordered c.sort_dedup.new.items.items c.args.edges.now.items c.sort_dedup.ensures
