use Rattle.std.proofs.Common.{sym}
use Rattle.ltl_sets.proofs.LaneLaws.{found_none}
use Rattle.ltl_sets.proofs.CubeLaws.{IsWords-differing}
use Rattle.ltl_sets.proofs.CubeOrderLaws.{cmp_same}
use Rattle.ltl_sets.proofs.cube.Cube.cmp_list.Goals as goal

pub lowest_of_first-requires : goal.lowest_of_first-requires
lowest_of_first-requires c =
    let own = c.self.invariant in
    let their = c.other.invariant in
    IsWords-differing c.self.inside.positive c.self.inside.negative c.other.inside.positive c.other.inside.negative own.positive_words own.negative_words their.positive_words their.negative_words

pub lowest-requires : goal.lowest-requires
lowest-requires c =
    let own = c.self.invariant in
    let their = c.other.invariant in
    IsWords-differing c.self.inside.positive c.self.inside.negative c.other.inside.positive c.other.inside.negative own.positive_words own.negative_words their.positive_words their.negative_words

pub returns-in-None-lowest : goal.returns-in-None-lowest
returns-in-None-lowest c =
    rw (← c.self.view_is, ← c.other.view_is)
    (sym (cmp_same c.self.inside.positive c.self.inside.negative c.other.inside.positive c.other.inside.negative c.self.invariant c.other.invariant
    (found_none _ c.lowest.result c.lowest.ensures c.in-None-lowest.is)))
