use Rattle.ltl_sets.specs.PlaceLaws.{words_again}
use Rattle.ltl_sets.proofs.row_set.RowSetHash.hash.Goals as goal

pub returns : goal.returns
returns g c = rw (← c.self.view_is, words_again c.self.inside.lanes c.self.invariant) c.hash.ensures
