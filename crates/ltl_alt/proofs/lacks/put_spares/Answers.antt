use Rattle.std.proofs.Common.{◌<◌, ◌∙◌, arith, length, refl, sym, subst}
use Rattle.std.proofs.lemmas.Option.{slice_get_read}
use Rattle.ltl_spec.proofs.Transitions.IndependenceTests.{no_support}
use Rattle.ltl_alt.specs.StandIns.{IsOfBlock}
use Rattle.ltl_alt.proofs.NeedsLaws.{same_default}
use Rattle.ltl_alt.proofs.SpareLaws.{of_block_more}
use Rattle.ltl_alt.proofs.lacks.put_spares.Goals as goal

pub pairs-preserved : goal.pairs-preserved
pairs-preserved g c =
    let ps = c.args.block.now in
    let vs = c.args.lacks.now in
    let k = c.pairs.k in
    let inside : k < length ps = omega arith in
    let there : k < length vs = let e = c.requires in omega arith in
    let p = c.index-block-k.result in
    let v = c.index-lacks-k.result in
    of_block_more ps vs c.args.spares.now.items c.pairs.spares.items c.push.new.self.items c.of.result c.in_ok-push.ensures.items
    (subst (IsOfBlock ps vs) (sym c.of.ensures) (record { index = k; there = slice_get_read ps (length ps) k p refl inside c.index-block-k.is; size = refl; lacks = same_default vs k no_support v there ∙ sym c.index-lacks-k.is }))
    c.pairs.invariant
