use Rattle.ltl_sets.proofs.CountLaws.{has_all}
use Rattle.ltl_sets.proofs.row_set.RowSet.all.Goals as goal

pub returns : goal.returns
returns c = has_all
