use Rattle.std.proofs.lemmas.Result.{err_from_is_err_and}
use Rattle.ltl_spec.specs.Checking.Check.{IsViolation}
use Rattle.ltl_syntax.specs.FormulaView.{reading_of}
use Rattle.ltl_check.specs.VerdictView.{verdict_of}
use Rattle.ltl_cli.proofs.CheckLaws.{verdict_moves, verdict_refused}
use Rattle.ltl_cli.proofs.check.judged.Goals as goal

pub returns-in_err-verdict : goal.returns-in_err-verdict
returns-in_err-verdict g c =
    let p = err_from_is_err_and c.from_residual.result c.from_residual.ensures.1 in
    rw (p.1, p.2) (verdict_refused c.args.automaton.now c.args.negation.now.formula.names c.args.negation.now.violations (IsViolation c.args.automaton.now (reading_of c.args.negation.now.formula)) _
    c.in_err-verdict.ensures.many c.in_err-verdict.ensures.large)

pub returns : goal.returns
returns g c = (
  c.in_ok-verdict.ensures.few,
  c.in_ok-verdict.ensures.fits,
  verdict_moves c.args.automaton.now (reading_of c.args.negation.now.formula) c.args.negation.now.violations c.requires.language (verdict_of c.in_ok-verdict.verdict.outcome) c.in_ok-verdict.ensures.verdict,
)
