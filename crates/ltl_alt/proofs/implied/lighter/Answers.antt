use Rattle.std.proofs.Common.{◌∙◌, ap, arith}
use Rattle.least.proofs.LookupLaws.{stays, goes}
use Rattle.ltl_alt.specs.TransitionView.{is_heavy}
use Rattle.ltl_alt.proofs.ImpliedLaws.{heavy, light}
use Rattle.ltl_alt.proofs.implied.lighter.Goals as goal
use Rattle.ltl_alt.proofs.implied.lighter.Goals.{then-weight-most+in_ok-push, else-weight-most}

pub transitions-preserved : goal.transitions-preserved
transitions-preserved g c =
    let most = c.args.most in
    let ts = c.args.transitions.now in
    let t = c.transition-item.result in
    elim c.if-weight-most.branch [
      | then-weight-most+in_ok-push w ↦
          stays (is_heavy most) ts c.transitions.lighter.items c.if-weight-most.lighter.items c.transitions.transition-index t c.transitions-test.true c.transition-item.is (light c.weight.result most t c.weight.ensures (omega (arith, w.if-weight-most.true)))
          (ap (λ v. v.items) w.lighter-is ∙ w.in_ok-push.ensures.items) c.transitions.invariant
      | else-weight-most w ↦
          goes (is_heavy most) ts c.transitions.lighter.items c.if-weight-most.lighter.items c.transitions.transition-index t c.transitions-test.true c.transition-item.is (heavy c.weight.result most t c.weight.ensures (omega (arith, w.if-weight-most.false)))
          (ap (λ v. v.items) w.lighter-is) c.transitions.invariant
    ]
