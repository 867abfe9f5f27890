use Rattle.ltl_sets.proofs.CubeLaws.{IsWords-failing, allows_Decides}
use Rattle.ltl_sets.proofs.cube.Cube.allows.Goals as goal

pub is_zero-requires : goal.is_zero-requires
is_zero-requires c =
    let own = c.self.invariant in
    IsWords-failing c.self.inside.positive c.self.inside.negative c.letter.inside.lanes own.positive_words own.negative_words c.letter.invariant

pub returns : goal.returns
returns c =
    let own = c.self.invariant in
    rw (← c.self.view_is, ← c.letter.view_is)
    (allows_Decides c.self.inside.positive c.self.inside.negative c.letter.inside.lanes own.positive_words own.negative_words c.letter.invariant c.is_zero.result c.is_zero.ensures)
