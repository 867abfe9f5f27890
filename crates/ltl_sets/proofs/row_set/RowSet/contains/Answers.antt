use Rattle.std.proofs.Common.{◌∙◌, sym}
use Rattle.ltl_sets.specs.PlaceLaws.{has_members}
use Rattle.ltl_sets.proofs.row_set.RowSet.contains.Goals as goal

pub returns : goal.returns
returns c = rw (← c.self.view_is) (c.has.ensures ∙ sym (has_members c.self.inside.lanes c.args.i c.requires))
