use Rattle.std.proofs.Common.{◌∙◌, ap, sym, subst}
use Rattle.ltl_spec.specs.Collections.Sets.{Has}
use Rattle.ltl_spec.proofs.Collections.ListLaws.{Has-at}
use Rattle.ltl_alt.specs.StandIns.{AreAmong}
use Rattle.ltl_alt.proofs.PruneLaws.{among_more}
use Rattle.ltl_alt.proofs.prune.smaller.Goals as goal
use Rattle.ltl_alt.proofs.prune.smaller.Goals.{then-size-most+in_ok-push, else-size-most}

pub pairs-init : goal.pairs-init
pairs-init g c = λ p h. absurd (subst (λ xs. Has xs p) c.in_ok-smaller.ensures.items h)

pub pairs-preserved : goal.pairs-preserved
pairs-preserved g c =
    let ps = c.args.pairs.now in
    let p = c.pair-item.result in
    let there = subst (Has ps) (sym c.pair-item.is) (Has-at ps c.pairs.pair-index p c.pairs-test.true) in
    elim c.if-size-most.branch [
      | then-size-most+in_ok-push w ↦ among_more ps c.pairs.smaller.items c.if-size-most.smaller.items p there (ap (λ v. v.items) w.smaller-is ∙ w.in_ok-push.ensures.items) c.pairs.invariant
      | else-size-most w ↦ subst (AreAmong ps) (sym (ap (λ v. v.items) w.smaller-is)) c.pairs.invariant
    ]
