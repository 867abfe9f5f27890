-- The bit set of a list of members: it is the inverse of listing the members of a bit set.
use Rattle.std.specs.Prelude.{◌≡◌, List, ℕ, true, false}
use Rattle.std.proofs.Common.{ap}
use Rattle.ltl_sets.specs.Words.{IsWords, IsCubeWords, members, words_with, literals, words_with_literals}
use Rattle.ltl_sets.specs.PlaceLaws.{words_again, positive_again, negative_again}
use Rattle.ltl_sets.specs.declared.row_set.RowSet.TheInside.{Inside}
use Rattle.ltl_sets.specs.declared.cube.Cube.TheInside as cube

pub row_set_again : (a : Inside) → IsWords a.lanes → (let r : Inside = record { lanes = words_with (members a.lanes) } in r) ≡ a
row_set_again a one = ap (λ (ws : List ℕ). let r : Inside = record { lanes = ws } in r) (words_again a.lanes one)

pub cube_again : (a : cube.Inside) → IsCubeWords a.positive a.negative
    → (let r : cube.Inside = record { positive = words_with_literals true (literals a.positive a.negative); negative = words_with_literals false (literals a.positive a.negative) } in r) ≡ a
cube_again a one =
    let p = positive_again a.positive a.negative one.positive_words in
    let n = negative_again a.positive a.negative one.negative_words in
    λ i. let r : cube.Inside = record { positive = p i; negative = n i } in r
