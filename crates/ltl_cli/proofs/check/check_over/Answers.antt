use Rattle.ltl_spec.specs.Tools.Refusal.{Checker}
use Rattle.ltl_cli.proofs.CauseLaws.{checker_cause}
use Rattle.ltl_cli.proofs.RunLaws.{outcome_shows, told_same}
use Rattle.ltl_cli.proofs.check.check_over.Goals as goal

pub returns-clause-shown : goal.returns-clause-shown
returns-clause-shown g c =
    let (input, s, file, t, h) = c.answered-outcome.ensures in
    (input, s, file, t, outcome_shows Checker c.args.plan.now input file _ _ _ _ _ _ h c.finish.ensures.status c.requires.message c.finish.ensures.message)

pub returns-clause-cause : goal.returns-clause-cause
returns-clause-cause g c failed =
    let (input, s, file, t, h) = c.answered-outcome.ensures in
    let shows = outcome_shows Checker c.args.plan.now input file _ _ _ _ _ _ h c.finish.ensures.status c.requires.message c.finish.ensures.message in
    checker_cause g.R.ByteSource.state _ _ input s (g.S.ByteSink.state c.answered-outcome.new.output) g.T.ByteSource.state _ _ file t c.args.plan.now (shows.promised.shown.cause failed)

pub returns-clause-same_output : goal.returns-clause-same_output
returns-clause-same_output g c =
    let (input, s, file, t, h) = c.answered-outcome.ensures in
    h.same

pub returns-clause-same_message : goal.returns-clause-same_message
returns-clause-same_message g c = told_same c.finish.ensures.message
