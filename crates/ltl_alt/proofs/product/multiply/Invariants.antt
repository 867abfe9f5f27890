use Rattle.std.proofs.Common.{◌≡◌, ◌++◌, drop, take}
use Rattle.ltl_spec.proofs.Transitions.ProductTransitions.{product}
use Rattle.ltl_alt.proofs.product.multiply.Given as goal

abbrev pub invariant-rest : goal.invariant-rest
invariant-rest g l = l.products.items ≡ l.fn.products.items ++ product (drop 1 (take l.k l.list)) l.fn.products.items
