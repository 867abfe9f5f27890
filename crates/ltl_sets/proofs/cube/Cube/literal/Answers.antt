use Rattle.std.proofs.Common.{◌∙◌, sym, ap, true, false, [], ◌∷◌, List}
use Rattle.ltl_spec.specs.Transitions.Cubes.{Literal}
use Rattle.ltl_sets.specs.PlaceLaws.{literal}
use Rattle.ltl_sets.proofs.CubeLaws.{literal_alone}
use Rattle.ltl_sets.proofs.cube.Cube.literal.Goals as goal

pub returns-then-sign : goal.returns-then-sign
returns-then-sign c =
    literal_alone c.single-place.result c.args.p true c.requires c.single-place.ensures.alone
    ∙ ap (λ s. let ls : List Literal = literal c.args.p s ∷ [] in ls) (sym c.if-sign.true)

pub returns-else-sign : goal.returns-else-sign
returns-else-sign c =
    literal_alone c.single-place.result c.args.p false c.requires c.single-place.ensures.alone
    ∙ ap (λ s. let ls : List Literal = literal c.args.p s ∷ [] in ls) (sym c.if-sign.false)
