use Rattle.std.proofs.Common.{◌≡◌, ◌+◌, ◌++◌, ◌∷◌, [], ◌∙◌, ap, sym, take}
use Rattle.std.proofs.lemmas.List.{take_more}
use Rattle.ltl_alt.proofs.SupportLaws.{covers_step}
use Rattle.ltl_alt.proofs.support.Support.of.Goals as goal

pub pairs-preserved : goal.pairs-preserved
pairs-preserved c =
    let ps = c.args.pairs.now in
    let i = c.pairs.pair-index in
    let p = c.pair-item.result in
    let next : take (i + 1) ps ≡ take i ps ++ p ∷ [] = take_more ps i p c.pairs-test.true ∙ ap (λ x. take i ps ++ x ∷ []) (sym c.pair-item.is) in
    covers_step c.pairs.support c.by.result c.together-support.result (take i ps) p (take (i + 1) ps) c.pairs.invariant c.by.ensures c.together-support.ensures next
