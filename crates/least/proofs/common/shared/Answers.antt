use Rattle.least.proofs.BlockLaws.{shared_more, shared_whole}
use Rattle.least.proofs.common.shared.Goals as goal

pub items-preserved : goal.items-preserved
items-preserved g c =
    shared_more g.T.Elements.needs c.args.kind c.args.block.now c.items.item-index c.item-item.result c.items.common c.needs.result c.common-common.result c.items-test.true c.item-item.is c.needs.ensures c.common-common.ensures c.items.invariant

pub returns : goal.returns
returns g c = shared_whole g.T.Elements.needs c.args.kind c.args.block.now c.items.item-index c.items.common c.items-test.false c.items.invariant
