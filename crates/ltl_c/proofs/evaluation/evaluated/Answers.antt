use Rattle.std.proofs.lemmas.Result.{err_from_is_err_and}
use Rattle.ltl_c.proofs.StepLaws.{evaluation_found, evaluation_refused}
use Rattle.ltl_c.proofs.evaluation.evaluated.Goals as goal

pub returns-in_err-word : goal.returns-in_err-word
returns-in_err-word g c =
    let p = err_from_is_err_and c.from_residual-in_err-word.result c.from_residual-in_err-word.ensures.1 in
    rw (p.1, p.2) (evaluation_refused c.args.formula.now c.args.word.now c.in_ok-formula.formula c.in_ok-formula.ensures.step _ c.in_err-word.ensures)

pub returns : goal.returns
returns g c = evaluation_found c.args.formula.now c.args.word.now c.in_ok-formula.formula c.in_ok-formula.ensures.step c.in_ok-word.word c.in_ok-truth.truth c.in_ok-word.ensures c.in_ok-truth.ensures
