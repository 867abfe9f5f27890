use Rattle.std.proofs.Common.{take}
use Rattle.ltl_alt.specs.Tests.{AreLeaves}
use Rattle.ltl_alt.proofs.leaves.leaves.Given as goal

abbrev pub invariant-steps : goal.invariant-steps
invariant-steps g l = AreLeaves (take l.k l.steps) l.all.items
