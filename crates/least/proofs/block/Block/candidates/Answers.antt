use Rattle.std.proofs.Common.{◌≡◌, ◌<◌, ◌∙◌, Some, ap, arith, length, refl, subst, sym}
use Rattle.std.specs.Prelude.{slice_get}
use Rattle.std.proofs.lemmas.Option.{slice_get_read}
use Rattle.least.specs.Blocks.{BlockView, HasCandidates}
use Rattle.least.proofs.BlockLaws.{candidates_begin, candidates_step}
use Rattle.least.proofs.block.Block.candidates.Goals as goal

pub kinds-init : goal.kinds-init
kinds-init g c =
    let needs = g.T.Elements.needs c.args.item.now in
    let asks = g.T.Elements.asks c.args.item.now in
    subst (λ (b : BlockView). HasCandidates needs asks b c.self.inside.all) c.self.view_is (candidates_begin needs asks (record { all = c.self.inside.all; kinds = c.self.inside.kinds.items }))

pub kinds-preserved : goal.kinds-preserved
kinds-preserved g c =
    let kinds = c.self.inside.kinds.items in
    let k = c.kinds.k in
    let inside : k < length kinds = omega (arith, c.kinds-test.true, c.len-k-end.ensures) in
    let got : slice_get c.args.self.now.kinds k ≡ Some c.index.result.now = sym (ap (λ (b : BlockView). slice_get b.kinds k) c.self.view_is) ∙ slice_get_read kinds (length kinds) k c.index.result.now refl inside c.index.ensures in
    candidates_step (g.T.Elements.needs c.args.item.now) (g.T.Elements.asks c.args.item.now) c.args.self.now k c.index.result.now c.kinds.left c.staying-left.result c.needs.result c.asks.result got c.needs.ensures c.asks.ensures c.staying-left.ensures
    c.kinds.invariant
