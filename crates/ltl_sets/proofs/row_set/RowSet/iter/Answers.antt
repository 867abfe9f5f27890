use Rattle.ltl_sets.proofs.RowSetLaws.{members_few, first_runs}
use Rattle.ltl_sets.proofs.row_set.RowSet.iter.Goals as goal

pub returns-clause-few : goal.returns-clause-few
returns-clause-few c = members_few c.self.inside.lanes

pub returns-clause-runs : goal.returns-clause-runs
returns-clause-runs c = first_runs
