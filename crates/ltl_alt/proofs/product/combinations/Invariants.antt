use Rattle.std.proofs.Common.{◌≤◌, drop, length, map}
use Rattle.ltl_spec.proofs.Transitions.FactorLaws.{product_size}
use Rattle.ltl_alt.specs.FinalView.{made_of}
use Rattle.ltl_alt.proofs.product.combinations.Given as goal

abbrev pub invariant-factors : goal.invariant-factors
invariant-factors g l = record {
  within : l.left ≤ length l.factors;
  count : l.count ≤ product_size (drop l.left (map (made_of l.finals.lists.keys) l.factors));
}

abbrev pub decreases-factors : goal.decreases-factors
decreases-factors g l = l.left
