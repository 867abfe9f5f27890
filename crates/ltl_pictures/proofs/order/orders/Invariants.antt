use Rattle.std.proofs.Common.{[], map}
use Rattle.ltl_pictures.proofs.FlagLaws.{SortedAt}
use Rattle.ltl_pictures.proofs.OrderLaws.{Rows}
use Rattle.ltl_pictures.proofs.order.orders.Given as goal

abbrev pub invariant-loop-k : goal.invariant-loop-k
invariant-loop-k g l = Rows (SortedAt l.automaton) [] l.k (map (λ p. p.items) l.orders.items)
