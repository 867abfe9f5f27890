use Rattle.std.proofs.Common.{All, take}
use Rattle.least.specs.Blocks.{IsNeeded}
use Rattle.least.proofs.common.shared.Given as goal

abbrev pub invariant-items : goal.invariant-items
invariant-items g l = All (IsNeeded g.T.Elements.needs l.kind l.common) (take l.item-index l.block)
