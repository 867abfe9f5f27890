use Rattle.std.proofs.Common.{◌≡◌, ◌<◌, ◌+◌, ◌-◌, arith, length}
use Rattle.std.specs.Prelude.{slice_index_or}
use Rattle.ltl_alt.specs.declared.program.Step.TheVariants as step
use Rattle.ltl_alt.proofs.NeedsLaws.{same_default}
use Rattle.ltl_alt.proofs.SubprogramLaws.{need_back}
use Rattle.ltl_alt.proofs.needs.need_below.Goals as goal

pub steps-preserved-then-index : goal.steps-preserved-then-index
steps-preserved-then-index g c =
    let ss = c.args.steps.now in
    let k = c.steps.k - 1 in
    let within = c.steps.invariant.within in
    let some = c.steps-test.true in
    let here : k < length ss = omega (arith, within, some) in
    let next : c.steps.k ≡ k + 1 = omega (arith, some) in
    let back = need_back ss k c.steps.k (slice_index_or ss k step.Always) c.steps.needed.items c.need_operands.new.needed.items next here (same_default ss k step.Always _ here) c.requires.earlier c.need_operands.ensures c.steps.invariant.from in
    record { within = omega (arith, within); from = back.0; more = λ i e. back.1 i (c.steps.invariant.more i e) }
