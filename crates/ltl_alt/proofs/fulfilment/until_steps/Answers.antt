use Rattle.std.proofs.Common.{◌≡◌, length, arith, subst}
use Rattle.ltl_alt.specs.Steps.{AreUntilSteps}
use Rattle.ltl_alt.specs.TransitionView.{table_at}
use Rattle.ltl_alt.proofs.ProgramLaws.{until_step_is, until_steps_begin, until_steps_more}
use Rattle.ltl_alt.proofs.fulfilment.until_steps.Goals as goal

pub untils-init : goal.untils-init
untils-init g c = until_steps_begin c.args.table.now c.args.program.now.steps.keys c.new-tests.result.items c.new-tests.ensures.items

pub untils-preserved : goal.untils-preserved
untils-preserved g c =
    let t = c.args.table.now in
    let ss = c.args.program.now.steps.keys in
    let rs = c.args.program.now.rows.items in
    let n = c.untils.number in
    let x = c.test_step.result in
    until_steps_more t ss n x c.untils.tests.items c.push.new.self.items c.in_ok-push.ensures.items
    (until_step_is t ss rs n c.until_row.result x c.row.result c.invariant.ensures c.requires c.until_row.ensures.found c.row.ensures.found c.test_step.ensures) c.untils.invariant

pub returns : goal.returns
returns g c =
    let t = c.args.table.now in
    let all = c.until_count-number-end.ensures.count in
    let end : c.untils.number ≡ length t.untils = omega arith in
    subst (λ n. AreUntilSteps (table_at t) c.args.program.now.steps.keys n c.untils.tests.items) end c.untils.invariant
