use Rattle.std.proofs.Common.{map, take}
use Rattle.ltl_models.specs.BaView.{HaveOrders}
use Rattle.ltl_models.proofs.automaton.orders.Given as goal

abbrev pub invariant-loop-list : goal.invariant-loop-list
invariant-loop-list g l = HaveOrders (take l.list l.states.lists) (map (λ p. p.items) l.orders.items)
