use Rattle.std.proofs.Common.{take}
use Rattle.ltl_alt.specs.TransitionView.{AreUpTo}
use Rattle.ltl_alt.proofs.implied.heaviest.Given as goal

abbrev pub invariant-transitions : goal.invariant-transitions
invariant-transitions l = AreUpTo l.most (take l.transition-index l.transitions)
