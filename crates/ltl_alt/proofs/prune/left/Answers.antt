use Rattle.std.proofs.Common.{◌∙◌, ap, sym}
use Rattle.least.proofs.LookupLaws.{stays, goes}
use Rattle.ltl_alt.specs.StandIns.{is_replaced}
use Rattle.ltl_alt.proofs.PruneLaws.{replaced_by}
use Rattle.ltl_alt.proofs.prune.left.Goals as goal
use Rattle.ltl_alt.proofs.prune.left.Goals.{then-not-has_lesser+in_ok-push, else-not-has_lesser}

pub pairs-preserved : goal.pairs-preserved
pairs-preserved g c =
    let ss = c.args.spares.now in
    let ps = c.args.pairs.now in
    let p = c.pair-item.result in
    let same = c.pairs.invariant.same in
    let found = sym (ap (λ us. is_replaced us p) same) ∙ replaced_by c.pairs.spares p c.nothing.result c.of.result c.has_lesser.result c.of.ensures c.has_lesser.ensures.lesser in
    record {
      same = c.has_lesser.ensures.same ∙ same;
      kept = elim c.if-not-has_lesser.branch [
        | then-not-has_lesser+in_ok-push w ↦
            stays (is_replaced ss) ps c.pairs.rest.items c.if-not-has_lesser.rest.items c.pairs.pair-index p c.pairs-test.true c.pair-item.is (found ∙ w.if-not-has_lesser.true)
            (ap (λ v. v.items) w.rest-is ∙ w.in_ok-push.ensures.items) c.pairs.invariant.kept
        | else-not-has_lesser w ↦
            goes (is_replaced ss) ps c.pairs.rest.items c.if-not-has_lesser.rest.items c.pairs.pair-index p c.pairs-test.true c.pair-item.is (found ∙ w.if-not-has_lesser.false)
            (ap (λ v. v.items) w.rest-is) c.pairs.invariant.kept
      ];
    }
