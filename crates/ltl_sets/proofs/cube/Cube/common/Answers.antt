use Rattle.ltl_sets.specs.WordLaws.{IsWords-and}
use Rattle.ltl_sets.proofs.CubeLaws.{literals_common, AreDisjoint-common}
use Rattle.ltl_sets.proofs.cube.Cube.common.Goals as goal

pub invariant_of-result : goal.invariant_of-result
invariant_of-result c =
    let own = c.self.invariant in
    let their = c.other.invariant in
    record {
      positive_words = IsWords-and c.self.inside.positive c.other.inside.positive own.positive_words their.positive_words;
      negative_words = IsWords-and c.self.inside.negative c.other.inside.negative own.negative_words their.negative_words;
      disjoint = AreDisjoint-common c.self.inside.positive c.self.inside.negative c.other.inside.positive c.other.inside.negative own.positive_words own.negative_words their.positive_words their.negative_words own.disjoint;
    }

pub returns : goal.returns
returns c =
    let own = c.self.invariant in
    let their = c.other.invariant in
    rw (← c.self.view_is, ← c.other.view_is)
    (literals_common c.self.inside.positive c.self.inside.negative c.other.inside.positive c.other.inside.negative own.positive_words own.negative_words their.positive_words their.negative_words)
