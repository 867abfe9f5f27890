use Rattle.std.proofs.Common.{◌≡◌, ◌<◌, arith, length, subst}
use Rattle.ltl_alt.specs.SupportView.{CoversAllFulfilling}
use Rattle.ltl_alt.specs.TransitionView.{table_at}
use Rattle.ltl_alt.proofs.SupportLaws.{awaits_step}
use Rattle.ltl_alt.proofs.support.fulfilling_of.Goals as goal

pub untils-preserved : goal.untils-preserved
untils-preserved g c =
    let T = table_at c.args.table.now in
    let count = c.requires.tests.count in
    let inside : c.untils.number < length T.untils = omega arith in
    awaits_step T c.args.fulfilment.now c.requires.tests c.args.targets.now c.untils.number c.until-until.result c.leaves.result c.untils.fulfilling c.with_leaves-fulfilling.result c.holds-is_put_off.result
    c.until-until.ensures inside c.leaves.ensures c.holds-is_put_off.ensures c.untils.invariant c.with_leaves-fulfilling.ensures

pub returns : goal.returns
returns g c =
    let T = table_at c.args.table.now in
    let count = c.requires.tests.count in
    let whole : c.untils.number ≡ length T.untils = omega arith in
    subst (λ n. CoversAllFulfilling T c.args.targets.now n c.untils.fulfilling) whole c.untils.invariant
