use Rattle.ltl_sets.proofs.RowSetLaws.{members_empty}
use Rattle.ltl_sets.proofs.row_set.RowSet.empty.Goals as goal

pub returns : goal.returns
returns c = members_empty
