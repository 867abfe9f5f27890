use Rattle.ltl_sets.proofs.CubeLaws.{IsWords-differing, same_Decides}
use Rattle.ltl_sets.proofs.cube.CubePartialEq.eq.Goals as goal

pub is_zero-requires : goal.is_zero-requires
is_zero-requires c =
    let own = c.self.invariant in
    let their = c.other.invariant in
    IsWords-differing c.self.inside.positive c.self.inside.negative c.other.inside.positive c.other.inside.negative own.positive_words own.negative_words their.positive_words their.negative_words

pub returns : goal.returns
returns c =
    let own = c.self.invariant in
    let their = c.other.invariant in
    rw (← c.self.view_is, ← c.other.view_is)
    (same_Decides c.self.inside.positive c.self.inside.negative c.other.inside.positive c.other.inside.negative own.positive_words own.negative_words their.positive_words their.negative_words
    c.is_zero.result c.is_zero.ensures)
