use Rattle.std.proofs.lemmas.Result.{err_from_is_err_and}
use Rattle.ltl_spec.specs.Tools.Refusal.{Checker}
use Rattle.ltl_cli.specs.Inputs.{most_of_automaton, most_taken}
use Rattle.ltl_cli.proofs.CheckLaws.{checker_decides}
use Rattle.ltl_cli.proofs.InputLaws.{unread}
use Rattle.ltl_cli.proofs.RunLaws.{outcome_broken, outcome_done, outcome_refused, words_refused}
use Rattle.ltl_cli.proofs.check.answered.Goals as goal

pub returns-in-Err : goal.returns-in-Err
returns-in-Err g c =
    let (input, s) = unread most_taken g.R.ByteSource.state c.args.source.now c.requires.source in
    let (file, t) = unread most_of_automaton g.T.ByteSource.state c.args.automaton.now c.requires.automaton in
    (input, s, file, t, words_refused Checker c.args.plan.now input file _ _ _ c.requires.output c.in-Err.is c.of_words.ensures)

pub returns-in_err-verdict : goal.returns-in_err-verdict
returns-in_err-verdict g c =
    let (input, s, file, t, h) = c.in_err-verdict.ensures in
    let p = err_from_is_err_and c.from_residual.result c.from_residual.ensures.1 in
    (input, s, file, t, rw (c.in-Ok.is, p.1, p.2) (outcome_refused (checker_decides c.in-Ok.plan input file) _ _ c.requires.output h))

pub returns-in_err-printed : goal.returns-in_err-printed
returns-in_err-printed g c =
    let (input, s, file, t, h) = c.in_ok-verdict.ensures in
    let p = err_from_is_err_and c.from_residual-in_err-printed.result c.from_residual-in_err-printed.ensures.1 in
    let w = rw c.outcome.ensures at (rw c.in_err-printed.was at c.print-printed.ensures.err) in
    (input, s, file, t, rw (c.in-Ok.is, p.1, p.2) (outcome_broken (checker_decides c.in-Ok.plan input file) _ _ _ c.requires.output h w))

pub returns : goal.returns
returns g c =
    let (input, s, file, t, h) = c.in_ok-verdict.ensures in
    let w = rw c.outcome.ensures at (rw c.in_ok-printed.was at c.print-printed.ensures.ok) in
    let e = rw c.outcome-2.ensures at c.status_of-status.ensures in
    (input, s, file, t, rw c.in-Ok.is (outcome_done (checker_decides c.in-Ok.plan input file) _ _ _ _ c.requires.output h w e))
