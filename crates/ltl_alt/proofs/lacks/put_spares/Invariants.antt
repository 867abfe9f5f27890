use Rattle.ltl_alt.specs.StandIns.{AreOfBlock}
use Rattle.ltl_alt.proofs.lacks.put_spares.Given as goal

abbrev pub invariant-pairs : goal.invariant-pairs
invariant-pairs g l = AreOfBlock l.block l.lacks l.fn.spares.items l.spares.items
