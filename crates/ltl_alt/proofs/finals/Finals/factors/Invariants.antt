use Rattle.std.proofs.Common.{ℕ, ◌<◌, length}
use Rattle.ltl_spec.specs.Collections.Sets.{Has}
use Rattle.ltl_alt.specs.FinalView.{AreFactorsOf, HasFinals, IsLonger}
use Rattle.ltl_alt.proofs.finals.Finals.factors.Given as goal

abbrev pub invariant-components : goal.invariant-components
invariant-components g l = record {
  finals : HasFinals l.basis l.self;
  factors : AreFactorsOf l.basis l.self.lists.keys l.all l.factors.items l.rest;
  longer : IsLonger l.fn.self.lists.keys l.self.lists.keys;
  inside : (k : ℕ) → Has l.rest k → k < length l.basis.conjuncts.lists.items;
}

abbrev pub decreases-components : goal.decreases-components
decreases-components g l = length l.rest
