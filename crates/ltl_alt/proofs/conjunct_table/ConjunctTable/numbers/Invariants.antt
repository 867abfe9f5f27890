use Rattle.std.proofs.Common.{◌≡◌, take}
use Rattle.std.specs.Ordering.{nat_cmp}
use Rattle.ltl_spec.specs.Collections.Lists.{places_where}
use Rattle.ltl_spec.specs.Collections.Sets.{has}
use Rattle.ltl_alt.proofs.conjunct_table.ConjunctTable.numbers.Given as goal

abbrev pub invariant-conjuncts : goal.invariant-conjuncts
invariant-conjuncts g l = l.numbers ≡ places_where (λ o. has nat_cmp o l.state) (take l.k l.self.owners.items)
