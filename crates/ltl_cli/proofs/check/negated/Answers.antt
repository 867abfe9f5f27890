use Rattle.std.proofs.lemmas.Result.{err_from_is_err_and}
use Rattle.ltl_syntax.specs.FormulaView.{reading_of}
use Rattle.ltl_cli.proofs.CheckLaws.{formula_refused, negation_refused}
use Rattle.ltl_cli.proofs.InputLaws.{read_same, refused_same}
use Rattle.ltl_cli.proofs.check.negated.Goals as goal

pub returns-in_err-formula-clause-found : goal.returns-in_err-formula-clause-found
returns-in_err-formula-clause-found g c =
    let (input, s, h) = c.in_err-formula.ensures.read in
    let p = err_from_is_err_and c.from_residual.result c.from_residual.ensures.1 in
    (input, s, rw (p.1, p.2) (λ file whole. formula_refused c.args.plan.now input file whole c.in_err-formula.field-0.0 (refused_same _ _ c.formula.ensures input c.in_err-formula.field-0.0 h)))

pub returns-in_err-violations-clause-found : goal.returns-in_err-violations-clause-found
returns-in_err-violations-clause-found g c =
    let (input, s, h) = c.in_ok-formula.ensures.read in
    let p = err_from_is_err_and c.from_residual-in_err-violations.result c.from_residual-in_err-violations.ensures.1 in
    (input, s, rw (p.1, p.2) (λ file whole. negation_refused c.args.plan.now input (reading_of c.in_ok-formula.formula) (read_same _ _ c.formula.ensures input (reading_of c.in_ok-formula.formula) h) file whole _ c.in_err-violations.ensures.step))

pub returns-clause-found : goal.returns-clause-found
returns-clause-found g c =
    let (input, s, h) = c.in_ok-formula.ensures.read in
    (input, s, (read_same _ _ c.formula.ensures input (reading_of c.in_ok-formula.formula) h, c.in_ok-violations.ensures.step))
