use Rattle.std.proofs.lemmas.Result.{err_from_is_err_and}
use Rattle.ltl_spec.specs.Checking.Check.{IsViolation}
use Rattle.ltl_syntax.specs.FormulaView.{reading_of}
use Rattle.ltl_check.specs.VerdictView.{verdict_of}
use Rattle.ltl_cli.proofs.CheckLaws.{verdict_moves, verdict_refused}
use Rattle.ltl_c.proofs.checking.judged.Goals as goal

pub returns-in_err-verdict : goal.returns-in_err-verdict
returns-in_err-verdict g c =
    let p = err_from_is_err_and c.from_residual.result c.from_residual.ensures.1 in
    rw (p.1, p.2) (verdict_refused c.args.automaton.now c.args.formula.now.names c.args.violations.now (IsViolation c.args.automaton.now (reading_of c.args.formula.now)) _ c.in_err-verdict.ensures.many
    c.in_err-verdict.ensures.large)

pub returns : goal.returns
returns g c = (
  c.in_ok-verdict.ensures.few,
  c.in_ok-verdict.ensures.fits,
  verdict_moves c.args.automaton.now (reading_of c.args.formula.now) c.args.violations.now c.requires.language (verdict_of c.in_ok-verdict.verdict.outcome) c.in_ok-verdict.ensures.verdict,
)
