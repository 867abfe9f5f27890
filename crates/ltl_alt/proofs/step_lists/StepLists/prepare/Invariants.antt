use Rattle.ltl_alt.specs.StepLists.{AreLists, MadeBelow}
use Rattle.ltl_alt.specs.TransitionView.{table_at}
use Rattle.ltl_alt.proofs.step_lists.StepLists.prepare.Given as goal

abbrev pub invariant-below : goal.invariant-below
invariant-below g l = record {
  lists : AreLists (table_at l.context.table.now) l.context.pruning.rule l.context.program.now.steps.keys l.self.lists.items;
  made : MadeBelow l.needed.items l.k l.self.lists.items;
}
