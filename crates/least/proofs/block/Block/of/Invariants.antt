use Rattle.least.proofs.BlockLaws.{AreKindsTo}
use Rattle.least.proofs.block.Block.of.Given as goal

abbrev pub invariant-kinds : goal.invariant-kinds
invariant-kinds g l = AreKindsTo g.T.Elements.needs g.T.Elements.lacking l.block l.kind l.kinds.items
