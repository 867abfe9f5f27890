use Rattle.std.proofs.Common.{◌∙◌, sym}
use Rattle.ltl_alt.proofs.CountedLaws.{no_until, until_row_stands}
use Rattle.ltl_alt.proofs.counted.until_place.Goals as goal

pub returns-then-is_until_row-clause-small : goal.returns-then-is_until_row-clause-small
returns-then-is_until_row-clause-small g c =
    c.place.ensures.small (until_row_stands c.args.table.now c.args.row c.row.result c.invariant.ensures c.requires c.row.ensures.found c.row.ensures.operands (sym c.is_until_row.ensures ∙ c.if-is_until_row.true))

pub returns-else-is_until_row-clause-place : goal.returns-else-is_until_row-clause-place
returns-else-is_until_row-clause-place g c =
    λ u. no_until c.args.table.now c.args.row c.row.result c.row.ensures.found c.row.ensures.operands (sym c.is_until_row.ensures ∙ c.if-is_until_row.false) u
