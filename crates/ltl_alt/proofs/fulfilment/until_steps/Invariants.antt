use Rattle.ltl_alt.specs.Steps.{AreUntilSteps}
use Rattle.ltl_alt.specs.TransitionView.{table_at}
use Rattle.ltl_alt.proofs.fulfilment.until_steps.Given as goal

abbrev pub invariant-untils : goal.invariant-untils
invariant-untils g l = AreUntilSteps (table_at l.table) l.program.steps.keys l.number l.tests.items
