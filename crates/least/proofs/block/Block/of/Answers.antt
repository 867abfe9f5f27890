use Rattle.least.proofs.BlockLaws.{kinds_more}
use Rattle.least.proofs.block.Block.of.Goals as goal

pub kinds-preserved : goal.kinds-preserved
kinds-preserved g c = kinds_more g.T.Elements.needs g.T.Elements.lacking c.args.block.now c.kinds.kind c.kinds.kinds.items c.push.new.self.items c.in_ok-of.field-0 c.in_ok-push.ensures.items c.in_ok-of.ensures c.kinds.invariant
