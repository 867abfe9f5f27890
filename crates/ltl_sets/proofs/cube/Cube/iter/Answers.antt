use Rattle.std.proofs.Common.{◌≡◌, ◌∙◌, ap, ap₂, sym, bit_or, map, List, ℕ}
use Rattle.std.specs.Simd.Lanes.{zip2}
use Rattle.ltl_sets.specs.Literals.{cube_of, signed_by}
use Rattle.ltl_sets.specs.Words.{members, letter_of}
use Rattle.ltl_sets.specs.WordLaws.{IsWords-or}
use Rattle.ltl_sets.specs.PlaceLaws.{members_below}
use Rattle.ltl_sets.proofs.CubeLaws.{letter_literals}
use Rattle.ltl_sets.proofs.LiteralsLaws.{signed_members, signed_few}
use Rattle.ltl_sets.proofs.RowSetLaws.{first_runs}
use Rattle.ltl_sets.proofs.cube.Cube.iter.Goals as goal

pub invariant_of-places : goal.invariant_of-places
invariant_of-places c =
    let own = c.self.invariant in
    IsWords-or c.self.inside.positive c.self.inside.negative own.positive_words own.negative_words

pub invariant_of-result : goal.invariant_of-result
invariant_of-result c =
    rw c.iter.ensures.members (members_below (zip2 bit_or c.self.inside.positive c.self.inside.negative))

pub returns-clause-literals : goal.returns-clause-literals
returns-clause-literals c =
    let own = c.self.invariant in
    let truths : c.letter.result ≡ members c.self.inside.positive =
    c.letter.ensures ∙ ap letter_of (sym c.self.view_is) ∙ sym (letter_literals c.self.inside.positive c.self.inside.negative) in
    ap₂ (λ (is js : List ℕ). cube_of (map (signed_by is) js)) truths c.iter.ensures.members
    ∙ signed_members c.self.inside.positive c.self.inside.negative own.positive_words own.negative_words own.disjoint
    ∙ c.self.view_is

pub returns-clause-few : goal.returns-clause-few
returns-clause-few c = signed_few c.letter.result c.iter.result c.iter.ensures.few

pub returns-clause-runs : goal.returns-clause-runs
returns-clause-runs c = first_runs
