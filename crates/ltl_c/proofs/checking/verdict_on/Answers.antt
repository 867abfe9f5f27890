use Rattle.std.proofs.lemmas.Result.{err_from_is_err_and}
use Rattle.std.specs.Prelude.{Ok, Err}
use Rattle.ltl_syntax.specs.FormulaView.{reading_of}
use Rattle.ltl_check.specs.VerdictView.{verdict_of}
use Rattle.ltl_cli.proofs.CheckLaws.{negates_violations}
use Rattle.ltl_c.proofs.StepLaws.{automaton_step, given_refused, judged_step, negation_refused}
use Rattle.ltl_c.proofs.checking.verdict_on.Goals as goal

pub returns-in_err-violations : goal.returns-in_err-violations
returns-in_err-violations g c =
    let p = err_from_is_err_and c.from_residual-in_err-violations.result c.from_residual-in_err-violations.ensures.1 in
    rw (p.1, p.2) (negation_refused c.args.formula.now c.args.automaton.now c.in_ok-formula.formula c.in_ok-formula.ensures.step _ c.in_err-violations.ensures.step)

pub returns-in_err-automaton : goal.returns-in_err-automaton
returns-in_err-automaton g c =
    let p = err_from_is_err_and c.from_residual-in_err-automaton.result c.from_residual-in_err-automaton.ensures.1 in
    rw (p.1, p.2)
    (given_refused c.args.formula.now c.args.automaton.now c.in_ok-formula.formula c.in_ok-formula.ensures.step c.in_ok-violations.violations c.in_ok-violations.ensures.step _
    (automaton_step c.args.automaton.now (Err _) c.in_err-automaton.ensures))

pub judged-requires-clause-language : goal.judged-requires-clause-language
judged-requires-clause-language g c = negates_violations (reading_of c.in_ok-formula.formula) c.in_ok-violations.violations c.in_ok-violations.ensures.step

pub returns : goal.returns
returns g c =
    judged_step c.args.formula.now c.args.automaton.now c.in_ok-formula.formula c.in_ok-formula.ensures.step c.in_ok-violations.violations c.in_ok-violations.ensures.step c.in_ok-automaton.automaton (automaton_step c.args.automaton.now (Ok _) c.in_ok-automaton.ensures)
    (λ v. verdict_of v.outcome) c.judged.result c.judged.ensures
