use Rattle.std.proofs.Common.{◌≡◌, ◌++◌, drop, map, take}
use Rattle.ltl_spec.proofs.Transitions.IndependentMarks.{at_once}
use Rattle.ltl_alt.proofs.product.join_each.Given as goal

abbrev pub invariant-products : goal.invariant-products
invariant-products l = l.products ≡ map (at_once l.one) (take l.i l.fn.products) ++ drop l.i l.fn.products
