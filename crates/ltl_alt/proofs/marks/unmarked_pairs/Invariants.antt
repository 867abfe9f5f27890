use Rattle.std.proofs.Common.{◌≡◌, take, map}
use Rattle.ltl_alt.specs.Columns.{unmarked_by}
use Rattle.ltl_alt.proofs.marks.unmarked_pairs.Given as goal

abbrev pub invariant-untils : goal.invariant-untils
invariant-untils g l = l.sets.items ≡ map (unmarked_by l.needing l.columns) (take l.number l.fulfilment.untils.items)
