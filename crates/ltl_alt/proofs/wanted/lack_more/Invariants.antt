use Rattle.std.proofs.Common.{length}
use Rattle.ltl_alt.proofs.WantedLaws.{AreMoreBut}
use Rattle.ltl_alt.proofs.wanted.lack_more.Given as goal

abbrev pub invariant-pairs : goal.invariant-pairs
invariant-pairs g l = AreMoreBut l.leaves l.fn.lacks.items l.pairs l.rest l.lacks.items

abbrev pub decreases-pairs : goal.decreases-pairs
decreases-pairs g l = length l.rest
