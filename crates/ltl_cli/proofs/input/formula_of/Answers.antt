use Rattle.std.proofs.lemmas.Result.{err_from_is_err_and}
use Rattle.ltl_cli.proofs.InputLaws.{given_refused}
use Rattle.ltl_cli.proofs.TextLaws.{formula_refused}
use Rattle.ltl_cli.proofs.input.formula_of.Goals as goal

pub returns-in_err-formula-clause-given : goal.returns-in_err-formula-clause-given
returns-in_err-formula-clause-given g c =
    let p = err_from_is_err_and c.from_residual.result c.from_residual.ensures.1 in
    rw (p.1, p.2) (given_refused c.args.text.now _ c.in_err-formula.ensures)

pub returns-in_err-formula-clause-step : goal.returns-in_err-formula-clause-step
returns-in_err-formula-clause-step g c =
    let p = err_from_is_err_and c.from_residual.result c.from_residual.ensures.1 in
    rw (p.1, p.2) (formula_refused c.args.text.now _ c.in_err-formula.ensures)
