use Rattle.ltl_alt.specs.SupportView.{CoversAllFulfilling}
use Rattle.ltl_alt.specs.TransitionView.{table_at}
use Rattle.ltl_alt.proofs.support.fulfilling_of.Given as goal

abbrev pub invariant-untils : goal.invariant-untils
invariant-untils g l = CoversAllFulfilling (table_at l.table) l.targets l.number l.fulfilling
