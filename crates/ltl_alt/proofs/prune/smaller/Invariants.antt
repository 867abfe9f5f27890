use Rattle.ltl_alt.specs.StandIns.{AreAmong}
use Rattle.ltl_alt.proofs.prune.smaller.Given as goal

abbrev pub invariant-pairs : goal.invariant-pairs
invariant-pairs g l = AreAmong l.pairs l.smaller.items
