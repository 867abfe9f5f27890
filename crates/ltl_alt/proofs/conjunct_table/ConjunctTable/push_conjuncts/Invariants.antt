use Rattle.std.proofs.Common.{◌≡◌, ◌+◌, length, map, take}
use Rattle.ltl_alt.specs.ConjunctTableView.{AreAdded, AreLinked}
use Rattle.ltl_alt.specs.StepLists.{AreLists}
use Rattle.ltl_alt.specs.TestPairs.{step_pairs}
use Rattle.ltl_alt.specs.TransitionView.{table_at}
use Rattle.ltl_alt.proofs.conjunct_table.ConjunctTable.push_conjuncts.Given as goal

abbrev pub invariant-conjuncts : goal.invariant-conjuncts
invariant-conjuncts g l = record {
  lists : AreLists (table_at l.context.table.now) l.context.pruning.rule l.context.program.now.steps.keys l.lists.lists.items;
  linked : AreLinked (table_at l.context.table.now) l.self.lists.items l.self.dependencies.items l.self.links.items;
  added : AreAdded (table_at l.context.table.now) l.context.pruning.rule l.place (map (step_pairs l.context.program.now.steps.keys) (take l.conjunct-index l.conjuncts)) l.fn.self.owners.items l.self.owners.items l.fn.self.lists.items l.self.lists.items;
  made : l.self.made ≡ l.fn.self.made;
  count : length l.self.lists.items ≡ length l.fn.self.lists.items + l.conjunct-index;
}
