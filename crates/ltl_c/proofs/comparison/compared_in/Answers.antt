use Rattle.std.proofs.lemmas.Result.{err_from_is_err_and}
use Rattle.ltl_syntax.specs.FormulaView.{reading_of}
use Rattle.ltl_compare.specs.ComparisonView.{comparison_of}
use Rattle.ltl_c.proofs.ComparisonLaws.{both_compared, first_stopped, refused_texts, second_stopped}
use Rattle.ltl_c.proofs.comparison.compared_in.Goals as goal

pub returns-in_err-one : goal.returns-in_err-one
returns-in_err-one g c =
    let (y, q, k) = err_from_is_err_and c.from_residual.result c.from_residual.ensures.1 in
    let e = c.in_err-one.field-0.0 in
    refused_texts c.args.first.now c.args.second.now _ c.from_residual.result y e q k (first_stopped c.args.first.now c.args.second.now e c.in_err-one.ensures)

pub returns-in_err-two : goal.returns-in_err-two
returns-in_err-two g c =
    let (y, q, k) = err_from_is_err_and c.from_residual-in_err-two.result c.from_residual-in_err-two.ensures.1 in
    let e = c.in_err-two.field-0.0 in
    refused_texts c.args.first.now c.args.second.now _ c.from_residual-in_err-two.result y e q k
    (second_stopped c.args.first.now c.args.second.now (reading_of c.in_ok-one.one) c.in_ok-one.ensures e c.in_err-two.ensures)

pub returns : goal.returns
returns g c =
    both_compared c.args.first.now c.args.second.now (reading_of c.in_ok-one.one) c.in_ok-one.ensures (reading_of c.in_ok-two.two) c.in_ok-two.ensures (λ d. comparison_of d) c.related-comparison.result
    c.related-comparison.ensures
