use Rattle.std.proofs.Common.{◌≤◌, arith, length}
use Rattle.least.proofs.PartLaws.{part_cut}
use Rattle.least.proofs.parts.part.Goals as goal

pub returns : goal.returns
returns g c =
    let few : length c.args.items.now ≤ 18446744073709551615 = omega (arith, c.well_formed) in
    part_cut c.args.items.now c.args.number 18446744073709551615 c.min-from.result c.min-end.result few (omega (arith, c.min-from.ensures, c.saturating_mul.ensures)) (omega (arith, c.min-end.ensures, c.saturating_add.ensures))
