use Rattle.std.proofs.Common.{◌∙◌, ap, fold}
use Rattle.ltl_sets.specs.Words.{hash_of}
use Rattle.ltl_sets.specs.PlaceLaws.{positive_again, negative_again}
use Rattle.ltl_sets.proofs.cube.CubeHash.hash.Goals as goal

pub returns : goal.returns
returns g c =
    let own = c.self.invariant in
    rw (← c.self.view_is, positive_again c.self.inside.positive c.self.inside.negative own.positive_words, negative_again c.self.inside.positive c.self.inside.negative own.negative_words)
    (c.hash-2.ensures ∙ ap (λ s. fold g.H.Hasher.write s (hash_of c.self.inside.negative)) c.hash.ensures)
