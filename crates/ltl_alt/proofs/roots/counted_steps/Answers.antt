use Rattle.std.proofs.Common.{ap, arith, sym, ◌∙◌}
use Rattle.ltl_alt.proofs.SpareLaws.{counted_end, counted_in, counted_out}
use Rattle.ltl_alt.proofs.roots.counted_steps.Goals as goal
use Rattle.ltl_alt.proofs.roots.counted_steps.Goals.{then-holds+in_ok-push, else-holds}

pub untils-init : goal.untils-init
untils-init g c = λ i u l. absurd (omega arith)

pub untils-preserved : goal.untils-preserved
untils-preserved g c =
    let us = c.args.fulfilment.now.untils.items in
    let counted = c.args.counted.now in
    let n = c.untils.number in
    let u = c.until-until.result in
    elim c.if-holds.branch [
      | then-holds+in_ok-push w ↦ counted_in us counted n u c.untils.roots.items c.if-holds.roots.items c.until-until.ensures c.untils.invariant (ap (λ v. v.items) w.roots-is ∙ w.in_ok-push.ensures.items)
      | else-holds w ↦ counted_out us counted n u c.untils.roots.items c.if-holds.roots.items c.until-until.ensures c.untils.invariant (sym c.holds.ensures ∙ w.if-holds.false) (ap (λ v. v.items) w.roots-is)
    ]

pub returns : goal.returns
returns g c = counted_end c.args.fulfilment.now.untils.items c.args.counted.now c.untils.number c.untils.roots.items (omega arith) c.untils.invariant
