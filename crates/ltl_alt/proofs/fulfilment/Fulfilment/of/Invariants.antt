use Rattle.ltl_alt.proofs.TestLaws.{AreTestsSoFar}
use Rattle.ltl_alt.specs.TransitionView.{table_at}
use Rattle.ltl_alt.proofs.fulfilment.Fulfilment.of.Given as goal

abbrev pub invariant-untils : goal.invariant-untils
invariant-untils g l = AreTestsSoFar (table_at l.table) l.steps.items l.number l.untils.items
