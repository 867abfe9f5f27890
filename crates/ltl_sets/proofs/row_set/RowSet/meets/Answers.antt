use Rattle.ltl_sets.specs.WordLaws.{IsWords-and}
use Rattle.ltl_sets.proofs.RowSetLaws.{meets_Decides}
use Rattle.ltl_sets.proofs.row_set.RowSet.meets.Goals as goal

pub is_zero-requires : goal.is_zero-requires
is_zero-requires c = IsWords-and c.self.inside.lanes c.other.inside.lanes c.self.invariant c.other.invariant

pub returns : goal.returns
returns c =
    rw (← c.self.view_is, ← c.other.view_is)
    (meets_Decides c.self.inside.lanes c.other.inside.lanes c.self.invariant c.other.invariant c.is_zero.result c.is_zero.ensures)
