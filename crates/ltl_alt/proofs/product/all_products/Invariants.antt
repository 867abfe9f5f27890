use Rattle.std.proofs.Common.{◌≤◌, drop, length, map}
use Rattle.std.specs.List.Sorted.{IsPermutation}
use Rattle.ltl_spec.proofs.Transitions.FactorLaws.{all_products}
use Rattle.ltl_alt.specs.FinalView.{made_of}
use Rattle.ltl_alt.specs.TransitionView.{table_at}
use Rattle.ltl_alt.proofs.product.all_products.Given as goal

abbrev pub invariant-factors : goal.invariant-factors
invariant-factors g l = record {
  within : l.left ≤ length l.factors;
  products : IsPermutation (all_products (table_at l.basis.table.now) (drop l.left (map (made_of l.finals.lists.keys) l.factors))) l.products.items;
}

abbrev pub decreases-factors : goal.decreases-factors
decreases-factors g l = l.left
