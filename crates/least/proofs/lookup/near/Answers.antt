use Rattle.std.proofs.Common.{◌-◌}
use Rattle.least.proofs.PartLaws.{any_between}
use Rattle.least.proofs.lookup.near.Goals as goal

pub returns : goal.returns
returns g c = λ p e. any_between p c.min-from.result (c.min-end.result - c.min-from.result) c.args.items.now e
