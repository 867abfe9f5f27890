use Rattle.std.proofs.Common.{◌≡◌, ◌++◌, take}
use Rattle.std.specs.Prelude.{filter_map}
use Rattle.ltl_alt.specs.ProductView.{join_transitions}
use Rattle.ltl_alt.proofs.product.append_joined.Given as goal

abbrev pub invariant-products : goal.invariant-products
invariant-products g l = l.products.items ≡ l.fn.products.items ++ filter_map (join_transitions l.one) (take l.i l.fn.products.items)
