use Rattle.std.proofs.Common.{◌∙◌, length, subst}
use Rattle.std.proofs.lemmas.Result.{IfOk-weaker}
use Rattle.ltl_syntax.specs.FormulaView.{StandsAt}
use Rattle.ltl_word.proofs.SubformulaLaws.{row_there, proposition_answer, unary_answer, binary_answer}
use Rattle.ltl_word.proofs.subformulas.subformula_row.Goals as goal

pub returns-in-Proposition : goal.returns-in-Proposition
returns-in-Proposition g c =
    IfOk-weaker c.row_of_name.result _ _ (λ bits h. proposition_answer c.args.formula.now c.args.word.now c.in-Proposition.p c.as_bytes.result.now bits c.args.node c.in-Proposition.is (c.as_bytes.ensures.value ∙ c.name.ensures) h) c.row_of_name.ensures

pub returns-in-Unary : goal.returns-in-Unary
returns-in-Unary g c =
    let f = c.args.formula.now in
    let w = c.args.word.now in
    let rows = c.args.rows.now in
    let stands = subst (StandsAt (length f.names) (length rows)) c.in-Unary.is c.requires.stands in
    let row = row_there f w rows c.in-Unary.a c.index-rows-a.result c.requires.rows stands c.index-rows-a.is in
    IfOk-weaker c.unary_row.result _ _ (λ bits u. unary_answer f w c.in-Unary.operator c.in-Unary.a c.index-rows-a.result bits c.args.node c.in-Unary.is row u) c.unary_row.ensures

pub returns-in-Binary : goal.returns-in-Binary
returns-in-Binary g c =
    let f = c.args.formula.now in
    let w = c.args.word.now in
    let rows = c.args.rows.now in
    let stands = subst (StandsAt (length f.names) (length rows)) c.in-Binary.is c.requires.stands in
    let left = row_there f w rows c.in-Binary.a c.index-rows-a-in-Binary.result c.requires.rows stands.0 c.index-rows-a-in-Binary.is in
    let right = row_there f w rows c.in-Binary.b c.index-rows-b.result c.requires.rows stands.1 c.index-rows-b.is in
    IfOk-weaker c.binary_row.result _ _ (λ bits u. binary_answer f w c.in-Binary.operator c.in-Binary.a c.in-Binary.b c.index-rows-a-in-Binary.result c.index-rows-b.result bits c.args.node c.in-Binary.is left right u) c.binary_row.ensures
