use Rattle.ltl_sets.proofs.RowSetLaws.{yields_members, first_progress}
use Rattle.ltl_sets.proofs.row_set.MembersIterator.next.Goals as goal

pub returns-clause-steps : goal.returns-clause-steps
returns-clause-steps c =
    rw (← c.self.view_is) (yields_members c.self.inside.words c.take_lowest.new.words c.take_lowest.result c.take_lowest.ensures.found c.take_lowest.ensures.rest)

pub returns-clause-goes : goal.returns-clause-goes
returns-clause-goes c = first_progress _ (λ _. tt) _ _ _ (returns-clause-steps c)
