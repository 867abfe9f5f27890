use Rattle.std.proofs.lemmas.Result.{err_from_is_err_and}
use Rattle.ltl_syntax.specs.FormulaView.{reading_of}
use Rattle.ltl_compare.proofs.StepLaws.{few_steps, marked_same, models_refused, search_found, search_refused, violations_refused}
use Rattle.ltl_compare.proofs.comparing.searched.Goals as goal

pub returns-in_err-models-clause-step : goal.returns-in_err-models-clause-step
returns-in_err-models-clause-step g c =
    let p = err_from_is_err_and c.from_residual.result c.from_residual.ensures.1 in
    rw (p.1, p.2) (models_refused (reading_of c.args.first.now) (reading_of c.args.second.now) _ c.in_err-models.ensures.step)

pub returns-in_err-violations-clause-step : goal.returns-in_err-violations-clause-step
returns-in_err-violations-clause-step g c =
    let p = err_from_is_err_and c.from_residual-in_err-violations.result c.from_residual-in_err-violations.ensures.1 in
    rw (p.1, p.2) (violations_refused (reading_of c.args.first.now) (reading_of c.args.second.now) c.in_ok-models.models c.in_ok-models.ensures.step _ c.in_err-violations.ensures.step)

pub returns-in_err-verdict-clause-step : goal.returns-in_err-verdict-clause-step
returns-in_err-verdict-clause-step g c =
    let p = err_from_is_err_and c.from_residual-in_err-verdict.result c.from_residual-in_err-verdict.ensures.1 in
    rw (p.1, p.2) (search_refused (reading_of c.args.first.now) (reading_of c.args.second.now) c.in_ok-models.models c.in_ok-models.ensures.step c.in_ok-violations.violations c.in_ok-violations.ensures.step
    _ (marked_same _ _ _ _ c.new-named.ensures.ba c.new-named.ensures.formula) _ c.in_err-verdict.ensures.many c.in_err-verdict.ensures.large)

pub returns-clause-step : goal.returns-clause-step
returns-clause-step g c =
    search_found (reading_of c.args.first.now) (reading_of c.args.second.now) c.in_ok-models.models c.in_ok-models.ensures.step c.in_ok-violations.violations c.in_ok-violations.ensures.step
    _ (marked_same _ _ _ _ c.new-named.ensures.ba c.new-named.ensures.formula) c.in_ok-verdict.verdict.outcome c.invariant.ensures.no_sets c.in_ok-verdict.ensures.few c.in_ok-verdict.ensures.fits
    c.in_ok-verdict.ensures.verdict

pub returns-clause-steps : goal.returns-clause-steps
returns-clause-steps g c =
    few_steps (reading_of c.args.first.now) (reading_of c.args.second.now) c.in_ok-models.models c.in_ok-models.ensures.step c.in_ok-violations.violations c.in_ok-violations.ensures.step
    _ (marked_same _ _ _ _ c.new-named.ensures.ba c.new-named.ensures.formula) c.in_ok-verdict.verdict.steps c.in_ok-verdict.ensures.most.0
