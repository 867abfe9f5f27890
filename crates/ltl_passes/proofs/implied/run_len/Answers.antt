use Rattle.std.proofs.Common.{arith}
use Rattle.ltl_passes.proofs.RunLaws.{other_target, run_is_len}
use Rattle.ltl_passes.proofs.implied.run_len.Goals as goal

pub returns-else-order-len : goal.returns-else-order-len
returns-else-order-len c =
    run_is_len c.args.target c.args.order.now c.run.len c.run.invariant.within c.run.invariant.same
    (λ l d. other_target c.args.target c.args.order.now c.run.len c.index-order-len.result l c.if-order-len.false d)

pub returns-after-run : goal.returns-after-run
returns-after-run c = run_is_len c.args.target c.args.order.now c.run.len c.run.invariant.within c.run.invariant.same (λ l d. absurd (omega (arith, l, c.run-test.false)))
