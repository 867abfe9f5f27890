use Rattle.std.proofs.Common.{arith}
use Rattle.std.proofs.lemmas.Result.{err_from_is_err_and}
use Rattle.ltl_syntax.specs.FormulaView.{reading_of}
use Rattle.ltl_compare.specs.ComparisonView.{found_word}
use Rattle.ltl_compare.proofs.StepLaws.{back_refused, compared, few_in_both, word_is}
use Rattle.ltl_compare.proofs.comparing.compare.Goals as goal

pub returns-in_err-back-clause-step : goal.returns-in_err-back-clause-step
returns-in_err-back-clause-step g c =
    let p = err_from_is_err_and c.from_residual-in_err-back.result c.from_residual-in_err-back.ensures.1 in
    rw (p.1, p.2) (back_refused (reading_of c.args.first.now) (reading_of c.args.second.now) (found_word c.in_ok-forth.forth.outcome) c.in_ok-forth.ensures.step _ c.in_err-back.ensures.step)

pub returns-clause-step : goal.returns-clause-step
returns-clause-step g c =
    compared (reading_of c.args.first.now) (reading_of c.args.second.now) (found_word c.in_ok-forth.forth.outcome) c.in_ok-forth.ensures.step (found_word c.in_ok-back.back.outcome) c.in_ok-back.ensures.step
    c.word_in.result c.word_in-2.result (word_is _ c.in_ok-forth.forth.outcome _ c.word_in.ensures c.into_outcome.ensures) (word_is _ c.in_ok-back.back.outcome _ c.word_in-2.ensures c.into_outcome-2.ensures)

pub returns-clause-steps : goal.returns-clause-steps
returns-clause-steps g c =
    few_in_both (reading_of c.args.first.now) (reading_of c.args.second.now) c.in_ok-forth.forth.steps c.in_ok-back.back.steps c.saturating_add-steps.result c.in_ok-forth.ensures.steps c.in_ok-back.ensures.steps
    (omega (arith, c.steps.ensures, c.steps-2.ensures, c.saturating_add-steps.ensures))
