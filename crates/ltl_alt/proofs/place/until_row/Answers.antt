use Rattle.std.proofs.lemmas.Option.{slice_get-get_or}
use Rattle.ltl_alt.proofs.RowLaws.{until_below}
use Rattle.ltl_alt.proofs.ElementaryLaws.{until_stands}
use Rattle.ltl_alt.proofs.place.until_row.Goals as goal

pub returns-clause-within : goal.returns-clause-within
returns-clause-within g c =
    let e = c.untils.ensures in
    until_below _ c.args.number _ c.invariant.ensures (rw e (slice_get-get_or c.args.table.now.untils c.args.number 0 c.requires))

pub returns-clause-elementary : goal.returns-clause-elementary
returns-clause-elementary g c =
    let e = c.untils.ensures in
    until_stands _ c.args.number _ c.invariant.ensures (rw e (slice_get-get_or c.args.table.now.untils c.args.number 0 c.requires))
