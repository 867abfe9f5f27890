use Rattle.std.proofs.lemmas.Option.{slice_get-get_or}
use Rattle.ltl_alt.proofs.RowLaws.{elementary_below}
use Rattle.ltl_alt.proofs.place.elementary_row.Goals as goal

pub returns-clause-within : goal.returns-clause-within
returns-clause-within g c =
    let e = c.elementary.ensures in
    elementary_below _ c.args.place _ c.invariant.ensures (rw e (slice_get-get_or c.args.table.now.elementary c.args.place 0 c.requires))
