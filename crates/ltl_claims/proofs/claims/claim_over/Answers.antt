use Rattle.ltl_cli.proofs.RunLaws.{told_same}
use Rattle.ltl_claims.specs.Plans.{requested}
use Rattle.ltl_claims.proofs.RunLaws.{outcome_shows}
use Rattle.ltl_claims.proofs.claims.claim_over.Goals as goal

pub returns-clause-shown : goal.returns-clause-shown
returns-clause-shown g c =
    let (input, s, h) = c.answered-outcome.ensures in
    (input, s, outcome_shows (requested c.args.plan.now) input _ _ _ _ _ _ h c.finish.ensures.status c.requires.message c.finish.ensures.message)

pub returns-clause-same_output : goal.returns-clause-same_output
returns-clause-same_output g c =
    let (input, s, h) = c.answered-outcome.ensures in
    h.same

pub returns-clause-same_message : goal.returns-clause-same_message
returns-clause-same_message g c = told_same c.finish.ensures.message
