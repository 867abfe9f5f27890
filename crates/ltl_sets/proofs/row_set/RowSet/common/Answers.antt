use Rattle.ltl_sets.specs.WordLaws.{IsWords-and}
use Rattle.ltl_sets.proofs.RowSetLaws.{members_common}
use Rattle.ltl_sets.proofs.row_set.RowSet.common.Goals as goal

pub invariant_of-result : goal.invariant_of-result
invariant_of-result c = IsWords-and c.self.inside.lanes c.other.inside.lanes c.self.invariant c.other.invariant

pub returns : goal.returns
returns c = rw (← c.self.view_is, ← c.other.view_is) (members_common c.self.inside.lanes c.other.inside.lanes c.self.invariant c.other.invariant)
