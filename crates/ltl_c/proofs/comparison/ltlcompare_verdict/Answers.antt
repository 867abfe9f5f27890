use Rattle.std.proofs.Common.{◌∙◌, refl}
use Rattle.ltl_cli.specs.Refusals.{refusal_of}
use Rattle.ltl_c.specs.Codes.{subject_in}
use Rattle.ltl_c.specs.Comparisons.{texts}
use Rattle.ltl_c.proofs.ComparisonLaws.{comparison_handed, refusal_handed}
use Rattle.ltl_c.proofs.comparison.ltlcompare_verdict.Goals as goal

pub returns-in-Ok : goal.returns-in-Ok
returns-in-Ok c =
    let (d, h, t) = c.in-Ok.ensures in
    comparison_handed c.args.first.now c.args.second.now c.in-Ok.answer.compared (texts c.args.first_only.now c.args.second_only.now) (texts c.deliver_both.new.first_only c.deliver_both.new.second_only) d h t.answer
    c.in-Ok.answer.status t.ended (texts c.in-Ok.answer.first_only.items c.in-Ok.answer.second_only.items) t.both c.deliver_both.result c.deliver_both.ensures

pub returns-in-Err : goal.returns-in-Err
returns-in-Err c =
    refusal_handed c.args.first.now c.args.second.now c.refused.result (texts c.args.first_only.now c.args.second_only.now) (texts c.args.first_only.now c.args.second_only.now) (subject_in c.in-Err.reason.subject)
    (refusal_of c.in-Err.reason.refusal) c.in-Err.ensures c.refused.ensures c.number.result (c.number.ensures ∙ c.status.ensures) refl
