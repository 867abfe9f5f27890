use Rattle.std.proofs.Common.{◌∙◌, ◌+◌, ◌*◌, arith, sym}
use Rattle.ltl_sets.specs.PlaceLaws.{has_members}
use Rattle.ltl_sets.proofs.row_set.RowSet.byte.Goals as goal

pub returns : goal.returns
returns c i h = rw (← c.self.view_is) (c.byte.ensures i h ∙ sym (has_members c.self.inside.lanes (8 * c.args.k + i) (omega (arith, c.requires, h))))
