use Rattle.ltl_sets.specs.WordLaws.{IsWords-or}
use Rattle.ltl_sets.proofs.RowSetLaws.{members_insert}
use Rattle.ltl_sets.proofs.row_set.RowSet.insert.Goals as goal

pub invariant_of-self : goal.invariant_of-self
invariant_of-self c = IsWords-or c.self.inside.lanes c.single.result c.self.invariant c.single.ensures.words

pub returns : goal.returns
returns c =
    rw (← c.self.view_is)
    (members_insert c.self.inside.lanes c.single.result c.args.i c.requires c.self.invariant c.single.ensures.words c.single.ensures.alone)
