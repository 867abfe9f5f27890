use Rattle.std.proofs.Common.{◌∙◌, sym, ap, None, Some}
use Rattle.std.specs.Prelude.{if◌then◌else◌}
use Rattle.ltl_spec.specs.Transitions.Cubes.{Cube, is_contradictory}
use Rattle.ltl_sets.specs.WordLaws.{IsWords-or, IsWords-and}
use Rattle.ltl_sets.proofs.CubeLaws.{literals_union, AreDisjoint-and, joined, not_joined}
use Rattle.ltl_sets.proofs.cube.Cube.join.Goals as goal

pub is_zero-requires : goal.is_zero-requires
is_zero-requires c =
    let own = c.self.invariant in
    let their = c.other.invariant in
    IsWords-and _ _ (IsWords-or c.self.inside.positive c.other.inside.positive own.positive_words their.positive_words)
    (IsWords-or c.self.inside.negative c.other.inside.negative own.negative_words their.negative_words)

pub invariant_of-result : goal.invariant_of-result
invariant_of-result c =
    let own = c.self.invariant in
    let their = c.other.invariant in
    let positive = IsWords-or c.self.inside.positive c.other.inside.positive own.positive_words their.positive_words in
    let negative = IsWords-or c.self.inside.negative c.other.inside.negative own.negative_words their.negative_words in
    record { positive_words = positive; negative_words = negative; disjoint = AreDisjoint-and _ _ positive negative c.is_zero.result c.is_zero.ensures c.if-is_zero.true }

pub returns-then-is_zero : goal.returns-then-is_zero
returns-then-is_zero c =
    let own = c.self.invariant in
    let their = c.other.invariant in
    let positive = IsWords-or c.self.inside.positive c.other.inside.positive own.positive_words their.positive_words in
    let negative = IsWords-or c.self.inside.negative c.other.inside.negative own.negative_words their.negative_words in
    rw (← c.self.view_is, ← c.other.view_is)
    (sym (joined _ _ positive negative c.is_zero.result c.is_zero.ensures c.if-is_zero.true)
    ∙ ap (λ (d : Cube). if is_contradictory d then None else Some d)
    (literals_union c.self.inside.positive c.self.inside.negative c.other.inside.positive c.other.inside.negative own.positive_words own.negative_words their.positive_words their.negative_words))

pub returns-else-is_zero : goal.returns-else-is_zero
returns-else-is_zero c =
    let own = c.self.invariant in
    let their = c.other.invariant in
    let positive = IsWords-or c.self.inside.positive c.other.inside.positive own.positive_words their.positive_words in
    let negative = IsWords-or c.self.inside.negative c.other.inside.negative own.negative_words their.negative_words in
    rw (← c.self.view_is, ← c.other.view_is)
    (sym (not_joined _ _ positive negative c.is_zero.result c.is_zero.ensures c.if-is_zero.false)
    ∙ ap (λ (d : Cube). if is_contradictory d then None else Some d)
    (literals_union c.self.inside.positive c.self.inside.negative c.other.inside.positive c.other.inside.negative own.positive_words own.negative_words their.positive_words their.negative_words))
