use Rattle.std.proofs.Common.{ℕ, ◌+◌, ◌<◌, ◌≤◌, ◌⊎◌, length}
use Rattle.ltl_spec.specs.Collections.Sets.{Has}
use Rattle.ltl_alt.specs.ConjunctTableView.{IsConjunctTable}
use Rattle.ltl_alt.specs.StepLists.{AreLists}
use Rattle.ltl_alt.specs.TransitionView.{table_at}
use Rattle.ltl_alt.proofs.conjunct_table.ConjunctTable.of.Given as goal

abbrev pub invariant-rows : goal.invariant-rows
invariant-rows g l = record {
  lists : AreLists (table_at l.context.table.now) l.context.pruning.rule l.context.program.now.steps.keys l.lists.lists.items;
  conjuncts : IsConjunctTable (table_at l.context.table.now) l.context.pruning.rule l.conjuncts.made l.conjuncts.owners.items l.conjuncts.lists.items l.conjuncts.dependencies.items l.conjuncts.links.items;
  room : length l.conjuncts.lists.items + length l.rest ≤ 256;
  new : (i : ℕ) → Has l.rest i → Has l.conjuncts.made i → ⊥;
  inside : (i : ℕ) → Has l.rest i → i < length l.context.table.now.elementary;
  all : (i : ℕ) → i < length l.context.table.now.elementary → Has l.conjuncts.made i ⊎ Has l.rest i;
}

abbrev pub decreases-rows : goal.decreases-rows
decreases-rows g l = length l.rest
