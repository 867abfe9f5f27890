use Rattle.ltl_automaton.proofs.EdgeLaws.{list_same}
use Rattle.ltl_automaton.proofs.edge_list.EdgeListPartialEq.eq.Goals as goal

pub returns : goal.returns
returns g c = list_same g.E.EdgeType.edge_of g.E.PartialEq.eq g.met.E.ListOrder.decides g.met.E.EdgeType.exact c.eq.result c.self.inside.edges.items c.other.inside.edges.items _ _ _ _ c.eq.ensures c.as_slice.ensures.value c.as_slice-2.ensures.value c.self.view_is c.other.view_is
