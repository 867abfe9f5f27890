use Rattle.least.specs.Blocks.{AreAllBelow}
use Rattle.least.proofs.block.everyone.Given as goal

abbrev pub invariant-indices : goal.invariant-indices
invariant-indices l = AreAllBelow l.j l.all
