use Rattle.std.proofs.Common.{◌∙◌, ◌≤◌, ◌<◌, ap, arith, length, map}
use Rattle.ltl_word.specs.LassoView.{lasso_of}
use Rattle.ltl_word.proofs.StandingNames.{letter_more, names_whole}
use Rattle.ltl_word.proofs.lasso.Lasso.names.Goals as goal

pub loop-i-preserved : goal.loop-i-preserved
loop-i-preserved g c =
    let l : c.loop-i.i < length c.self.inside.letters.items = omega arith in
    letter_more (map (λ n. n.items) c.as_slice-names.result.now) c.self.inside.letters.items c.loop-i.i c.index.result.now _ _ _ l c.index.ensures c.in_ok-push_names.ensures c.loop-i.invariant

pub returns : goal.returns
returns g c =
    let all = c.self.inside.letters.items in
    let at = c.self.inside.stem in
    let l : length all ≤ c.loop-i.i = omega arith in
    let view = ap (λ ns. lasso_of (map (λ n. n.items) ns) all at) c.as_slice-names.ensures.value ∙ c.self.view_is in
    names_whole (map (λ n. n.items) c.as_slice-names.result.now) all c.loop-i.i at _ _ l view c.loop-i.invariant
