use Rattle.std.proofs.Common.{ℕ}
use Rattle.ltl_spec.specs.Collections.Sets.{Has}
use Rattle.ltl_alt.proofs.conjunct_table.ConjunctTable.component.Given as goal

abbrev pub invariant-rounds : goal.invariant-rounds
invariant-rounds g l = record {
  there : Has l.inside l.first;
  some : (i : ℕ) → Has l.inside i → Has l.rest i;
}
