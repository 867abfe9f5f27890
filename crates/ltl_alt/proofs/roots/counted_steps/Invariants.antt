use Rattle.ltl_alt.proofs.SpareLaws.{AreCountedBelow}
use Rattle.ltl_alt.proofs.roots.counted_steps.Given as goal

abbrev pub invariant-untils : goal.invariant-untils
invariant-untils g l = AreCountedBelow l.fulfilment.untils.items l.counted l.number l.roots.items
