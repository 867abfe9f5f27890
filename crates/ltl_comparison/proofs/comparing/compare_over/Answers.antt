use Rattle.ltl_cli.proofs.RunLaws.{told_same}
use Rattle.ltl_comparison.proofs.RunLaws.{outcome_shows}
use Rattle.ltl_comparison.proofs.comparing.compare_over.Goals as goal

pub returns-clause-shown : goal.returns-clause-shown
returns-clause-shown g c =
    let (input, s, other, t, h) = c.answered-outcome.ensures in
    (input, s, other, t, outcome_shows _ _ _ _ _ _ h c.finish.ensures.status c.requires.message c.finish.ensures.message)

pub returns-clause-same_output : goal.returns-clause-same_output
returns-clause-same_output g c =
    let (input, s, other, t, h) = c.answered-outcome.ensures in
    h.same

pub returns-clause-same_message : goal.returns-clause-same_message
returns-clause-same_message g c = told_same c.finish.ensures.message
