use Rattle.least.proofs.ColumnLaws.{met_more, met_whole}
use Rattle.least.proofs.columns.together.Goals as goal

pub sets-preserved : goal.sets-preserved
sets-preserved c = met_more c.sets.all c.union-all.result c.set-item.result c.args.sets.now c.sets.set-index c.sets-test.true c.set-item.is c.union-all.ensures c.sets.invariant

pub returns : goal.returns
returns c = met_whole c.sets.all c.args.sets.now c.sets.set-index c.sets-test.false c.sets.invariant
