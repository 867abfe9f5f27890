use Rattle.ltl_spec.specs.Tools.Refusal.{Translator}
use Rattle.ltl_spec.specs.Tools.Outcome as spec
use Rattle.ltl_cli.proofs.CauseLaws.{translator_cause}
use Rattle.ltl_cli.proofs.RunLaws.{outcome_shows, told_same}
use Rattle.ltl_cli.proofs.translate.translate_over.Goals as goal

pub returns-clause-shown : goal.returns-clause-shown
returns-clause-shown g c =
    let (input, s, h) = c.answered-outcome.ensures in
    (input, s, λ file. outcome_shows Translator c.args.plan.now input file _ _ _ _ _ _ (h file) c.finish.ensures.status c.requires.message c.finish.ensures.message)

pub returns-clause-cause : goal.returns-clause-cause
returns-clause-cause g c failed =
    let (input, s, h) = c.answered-outcome.ensures in
    let shows = outcome_shows Translator c.args.plan.now input spec.NotOpened _ _ _ _ _ _ (h spec.NotOpened) c.finish.ensures.status c.requires.message c.finish.ensures.message in
    translator_cause g.R.ByteSource.state _ _ input s (g.S.ByteSink.state c.answered-outcome.new.output) c.args.plan.now spec.NotOpened (shows.promised.shown.cause failed)

pub returns-clause-memory : goal.returns-clause-memory
returns-clause-memory g c takes =
    let (input, s, h) = c.answered-outcome.ensures in
    let shows = outcome_shows Translator c.args.plan.now input spec.NotOpened _ _ _ _ _ _ (h spec.NotOpened) c.finish.ensures.status c.requires.message c.finish.ensures.message in
    shows.promised.memory (takes input s)

pub returns-clause-same_output : goal.returns-clause-same_output
returns-clause-same_output g c =
    let (input, s, h) = c.answered-outcome.ensures in
    (h spec.NotOpened).same

pub returns-clause-same_message : goal.returns-clause-same_message
returns-clause-same_message g c = told_same c.finish.ensures.message
