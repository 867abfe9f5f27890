use Rattle.ltl_sets.proofs.CountLaws.{count_members}
use Rattle.ltl_sets.proofs.row_set.RowSet.count.Goals as goal

pub returns : goal.returns
returns c = rw (← c.self.view_is) (count_members c.self.inside.lanes c.self.invariant)
