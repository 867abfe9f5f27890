use Rattle.ltl_sets.specs.WordLaws.{IsWords-or}
use Rattle.ltl_sets.proofs.RowSetLaws.{members_union}
use Rattle.ltl_sets.proofs.row_set.RowSet.union.Goals as goal

pub invariant_of-result : goal.invariant_of-result
invariant_of-result c = IsWords-or c.self.inside.lanes c.other.inside.lanes c.self.invariant c.other.invariant

pub returns : goal.returns
returns c = rw (← c.self.view_is, ← c.other.view_is) (members_union c.self.inside.lanes c.other.inside.lanes c.self.invariant c.other.invariant)
