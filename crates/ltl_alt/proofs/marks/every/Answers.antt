use Rattle.std.proofs.Common.{◌≡◌, ◌<◌, ◌∙◌, arith, length, refl, true}
use Rattle.ltl_spec.specs.NormalForms.Normal.{Bottom}
use Rattle.ltl_alt.specs.TransitionView.{table_at}
use Rattle.ltl_alt.proofs.TransitionLaws.{marks_step, marks_end}
use Rattle.ltl_alt.proofs.marks.every.Goals as goal

pub untils-preserved : goal.untils-preserved
untils-preserved g c =
    let T = table_at c.args.table.now in
    let count = c.requires.tests.count in
    let inside : c.untils.number < length T.untils = omega arith in
    c.insert.ensures ∙ marks_step (λ F. true) Bottom T.untils c.untils.number true c.untils.every inside refl c.untils.invariant

pub returns : goal.returns
returns g c =
    let T = table_at c.args.table.now in
    let count = c.requires.tests.count in
    let whole : c.untils.number ≡ length T.untils = omega arith in
    marks_end (λ F. true) T.untils c.untils.number c.untils.every whole c.untils.invariant
