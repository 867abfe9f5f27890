use Rattle.std.proofs.lemmas.Result.{err_from_is_err_and}
use Rattle.ltl_syntax.specs.FormulaView.{reading_of}
use Rattle.ltl_cli.specs.Inputs.{most_of_automaton}
use Rattle.ltl_cli.proofs.InputLaws.{unread_whole}
use Rattle.ltl_cli.proofs.CheckLaws.{negates_violations}
use Rattle.ltl_cli.proofs.check.found.Goals as goal

pub returns-in_err-negation : goal.returns-in_err-negation
returns-in_err-negation g c =
    let (input, s, h) = c.in_err-negation.ensures.found in
    let (file, t, whole) = unread_whole most_of_automaton g.T.ByteSource.state c.args.automaton.now c.requires.automaton in
    let p = err_from_is_err_and c.from_residual.result c.from_residual.ensures.1 in
    (input, s, file, t, rw (p.1, p.2) (h file whole))

pub found_by-verdict-requires-clause-language : goal.found_by-verdict-requires-clause-language
found_by-verdict-requires-clause-language g c =
    let (input, s, h) = c.in_ok-negation.ensures.found in
    let n = c.in_ok-negation.negation in
    negates_violations (reading_of n.formula) n.violations h.1

pub returns : goal.returns
returns g c =
    let (input, s, h) = c.in_ok-negation.ensures.found in
    let (file, t, a) = c.found_by-verdict.ensures in
    (input, s, file, t, a c.args.plan.now input h)
