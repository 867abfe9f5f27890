use Rattle.std.proofs.Common.{◌∙◌, ◌++◌, ap, codes, refl}
use Rattle.ltl_cli.specs.Refusals.{refusal_of}
use Rattle.ltl_c.specs.Codes.{subject_in}
use Rattle.ltl_c.proofs.LineLaws.{comparer_line}
use Rattle.ltl_c.proofs.message.comparer_line.Goals as goal

pub returns : goal.returns
returns c =
    comparer_line (subject_in c.args.subject) (refusal_of c.args.refusal) _ _ _ _ _ refl c.formula_name.ensures.name c.comparer_front.ensures.front c.number.ensures c.back.ensures.back _ _ _ _ _ _
    (c.put.ensures ∙ ap (λ x. x ++ codes "ltlcompare: ") c.new-line.ensures) c.put-2.ensures c.put-3.ensures c.put_number.ensures.put c.put-4.ensures c.put-5.ensures
