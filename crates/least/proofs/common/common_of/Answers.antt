use Rattle.least.proofs.BlockLaws.{common_is}
use Rattle.least.proofs.common.common_of.Goals as goal

pub returns : goal.returns
returns g c = common_is g.T.Elements.needs c.args.block.now c.shared.result c.shared-2.result c.shared-3.result c.shared.ensures c.shared-2.ensures c.shared-3.ensures
