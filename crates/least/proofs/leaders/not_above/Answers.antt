use Rattle.std.proofs.Common.{◌≡◌, sym, ◌∙◌, ap}
use Rattle.least.specs.Lookups.{is_above}
use Rattle.least.proofs.LookupLaws.{stays, goes}
use Rattle.least.proofs.leaders.not_above.Goals as goal
use Rattle.least.proofs.leaders.not_above.Goals.{then-not-has_lesser+in_ok-push, else-not-has_lesser}

pub items-preserved : goal.items-preserved
items-preserved g c =
    let below = g.T.Below.below in
    let differs = g.C.Counting.counts c.args.counting.now in
    let items = c.args.items.now in
    let us = c.args.candidates.now in
    let t = c.item-item.result in
    let tells : c.has_lesser.result ≡ is_above below differs us t = c.has_lesser.ensures.lesser ∙ ap (λ l. is_above below differs l t) c.items.invariant.same in
    record {
      same = c.has_lesser.ensures.same ∙ c.items.invariant.same;
      kept = elim c.if-not-has_lesser.branch [
        | then-not-has_lesser+in_ok-push w ↦
            stays (is_above below differs us) items c.items.kept.items c.if-not-has_lesser.kept.items c.items.item-index t c.items-test.true c.item-item.is (sym tells ∙ w.if-not-has_lesser.true)
            (ap (λ v. v.items) w.kept-is ∙ w.in_ok-push.ensures.items) c.items.invariant.kept
        | else-not-has_lesser w ↦
            goes (is_above below differs us) items c.items.kept.items c.if-not-has_lesser.kept.items c.items.item-index t c.items-test.true c.item-item.is (sym tells ∙ w.if-not-has_lesser.false) (ap (λ v. v.items) w.kept-is)
            c.items.invariant.kept
      ];
    }
