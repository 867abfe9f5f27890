use Rattle.ltl_sets.proofs.RowSetLaws.{members_single}
use Rattle.ltl_sets.proofs.row_set.RowSet.single.Goals as goal

pub returns : goal.returns
returns c = members_single c.single.result c.args.i c.requires c.single.ensures.alone
