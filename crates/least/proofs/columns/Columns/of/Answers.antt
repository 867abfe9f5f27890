use Rattle.least.proofs.ColumnLaws.{columns_of}
use Rattle.least.proofs.columns.Columns.of.Goals as goal

pub returns : goal.returns
returns g c = columns_of c.args.sets.now c.in_ok-columns.columns.items c.together-met.result c.width.result c.together-met.ensures c.width.ensures.above c.in_ok-columns.ensures
