use Rattle.std.proofs.Common.{map}
use Rattle.ltl_automaton.specs.CodedEdges.{coded_edge_of}
use Rattle.ltl_automaton.proofs.EdgeLaws.{map_pushed}
use Rattle.ltl_models.proofs.PlacedLaws.{orders_next}
use Rattle.ltl_models.proofs.automaton.orders.Goals as goal

pub loop-list-preserved : goal.loop-list-preserved
loop-list-preserved g c =
    orders_next (map coded_edge_of c.list_edges.result.now) c.in_ok-places_by_target.field-0.items c.in_ok-places_by_target.ensures.order c.args.states.now.lists c.loop-list.list (map (λ p. p.items) c.loop-list.orders.items) (map (λ p. p.items) c.push.new.self.items)
    c.loop-list.invariant c.list_edges.ensures (map_pushed (λ p. p.items) c.loop-list.orders.items c.push.new.self.items c.in_ok-places_by_target.field-0 c.in_ok-push.ensures.items)
