use Rattle.ltl_sets.specs.WordLaws.{IsWords-without}
use Rattle.ltl_sets.proofs.RowSetLaws.{subset_Decides}
use Rattle.ltl_sets.proofs.row_set.RowSet.is_subset.Goals as goal

pub is_zero-requires : goal.is_zero-requires
is_zero-requires c = IsWords-without c.self.inside.lanes c.other.inside.lanes c.self.invariant c.other.invariant

pub returns : goal.returns
returns c =
    rw (← c.self.view_is, ← c.other.view_is)
    (subset_Decides c.self.inside.lanes c.other.inside.lanes c.self.invariant c.other.invariant c.is_zero.result c.is_zero.ensures)
