use Rattle.std.proofs.lemmas.Result.{err_from_is_err_and}
use Rattle.ltl_syntax.specs.FormulaView.{reading_of}
use Rattle.ltl_cli.specs.Inputs.{most_taken}
use Rattle.ltl_cli.proofs.InputLaws.{read_same, refused_same, unread_whole}
use Rattle.ltl_words.specs.Comparer.{pair_planned}
use Rattle.ltl_compare.specs.ComparisonView.{comparison_of}
use Rattle.ltl_comparison.proofs.ComparisonLaws.{both_compared, first_refused, refused_compared, second_refused}
use Rattle.ltl_comparison.proofs.formulas.compared.Goals as goal

pub returns-in_err-one : goal.returns-in_err-one
returns-in_err-one g c =
    let (input, s, (q, h)) = c.in_err-one.ensures in
    let (other, t, whole) = unread_whole most_taken g.T.ByteSource.state c.args.second.now c.requires.second in
    let (y, p, k) = err_from_is_err_and c.from_residual.result c.from_residual.ensures.1 in
    let e = c.in_err-one.field-0.0 in
    let plan = pair_planned c.args.plan.now in
    let refuses = first_refused plan input other whole e q (refused_same _ _ c.first.ensures input e.refusal h) in
    (input, s, other, t, refused_compared plan input other (λ x. comparison_of x) c.from_residual.result y e p k refuses)

pub returns-in_err-two : goal.returns-in_err-two
returns-in_err-two g c =
    let (input, s, h) = c.in_ok-one.ensures in
    let (other, t, (q, k)) = c.in_err-two.ensures in
    let (y, p, same) = err_from_is_err_and c.from_residual-in_err-two.result c.from_residual-in_err-two.ensures.1 in
    let e = c.in_err-two.field-0.0 in
    let plan = pair_planned c.args.plan.now in
    let reads = read_same _ _ c.first.ensures input (reading_of c.in_ok-one.one) h in
    let refuses = second_refused plan input other (reading_of c.in_ok-one.one) reads e q (refused_same _ _ c.second.ensures other e.refusal k) in
    (input, s, other, t, refused_compared plan input other (λ x. comparison_of x) c.from_residual-in_err-two.result y e p same refuses)

pub returns : goal.returns
returns g c =
    let (input, s, h) = c.in_ok-one.ensures in
    let (other, t, k) = c.in_ok-two.ensures in
    let reads = read_same _ _ c.first.ensures input (reading_of c.in_ok-one.one) h in
    let others = read_same _ _ c.second.ensures other (reading_of c.in_ok-two.two) k in
    (input, s, other, t, both_compared (pair_planned c.args.plan.now) input other (reading_of c.in_ok-one.one) reads (reading_of c.in_ok-two.two) others (λ x. comparison_of x) c.related-comparison.result c.related-comparison.ensures)
