use Rattle.std.proofs.Common.{arith}
use Rattle.ltl_alt.proofs.ImpliedLaws.{up_to_more}
use Rattle.ltl_alt.proofs.implied.heaviest.Goals as goal
use Rattle.ltl_alt.proofs.implied.heaviest.Goals.{then-most-weight, else-most-weight}

pub transitions-preserved : goal.transitions-preserved
transitions-preserved c =
    let ts = c.args.transitions.now in
    let t = c.transition-item.result in
    elim c.if-most-weight.branch [
      | then-most-weight w ↦
          up_to_more ts c.transitions.transition-index c.weight-weight.result c.transitions.most c.if-most-weight.most t c.transitions-test.true c.transition-item.is c.weight-weight.ensures
          (omega (arith, w.most-is, w.if-most-weight.true)) (omega (arith, w.most-is)) c.transitions.invariant
      | else-most-weight w ↦
          up_to_more ts c.transitions.transition-index c.weight-weight.result c.transitions.most c.if-most-weight.most t c.transitions-test.true c.transition-item.is c.weight-weight.ensures
          (omega (arith, w.most-is)) (omega (arith, w.most-is, w.if-most-weight.false)) c.transitions.invariant
    ]
