use Rattle.std.proofs.Common.{take}
use Rattle.ltl_reduce.proofs.ImportLaws.{AreSteps}
use Rattle.ltl_reduce.proofs.importing.steps_of.Given as goal

abbrev pub invariant-loop-edge : goal.invariant-loop-edge
invariant-loop-edge g l = AreSteps (take l.edge-index l.edges) l.steps.items
