use Rattle.std.proofs.lemmas.Result.{err_from_is_err_and}
use Rattle.ltl_syntax.specs.FormulaView.{reading_of}
use Rattle.ltl_check.specs.VerdictView.{verdict_of}
use Rattle.ltl_cli.proofs.CheckLaws.{automaton_refused, judged_found}
use Rattle.ltl_cli.proofs.check.found_by.Goals as goal

pub returns-in_err-automaton : goal.returns-in_err-automaton
returns-in_err-automaton g c =
    let (file, t, a) = c.in_err-automaton.ensures in
    let p = err_from_is_err_and c.from_residual.result c.from_residual.ensures.1 in
    let n = c.args.negation.now in
    (file, t, λ plan input h. rw (p.1, p.2) (automaton_refused plan input (reading_of n.formula) h.0 n.violations h.1 file _ a))

pub returns : goal.returns
returns g c =
    let (file, t, a) = c.in_ok-automaton.ensures in
    let n = c.args.negation.now in
    (file, t, λ plan input h. judged_found plan input (reading_of n.formula) h.0 n.violations h.1 file c.in_ok-automaton.automaton a (λ v. verdict_of v.outcome) c.judged-verdict.result c.judged-verdict.ensures)
