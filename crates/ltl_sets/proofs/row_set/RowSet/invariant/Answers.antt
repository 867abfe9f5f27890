use Rattle.ltl_sets.specs.PlaceLaws.{members_rise, members_below}
use Rattle.ltl_sets.proofs.RowSetLaws.{members_few}
use Rattle.ltl_sets.proofs.row_set.RowSet.invariant.Goals as goal

pub returns-clause-rising : goal.returns-clause-rising
returns-clause-rising c = rw (← c.self.view_is) (members_rise c.self.inside.lanes)

pub returns-clause-below : goal.returns-clause-below
returns-clause-below c = rw (← c.self.view_is) (members_below c.self.inside.lanes)

pub returns-clause-few : goal.returns-clause-few
returns-clause-few c = rw (← c.self.view_is) (members_few c.self.inside.lanes)
