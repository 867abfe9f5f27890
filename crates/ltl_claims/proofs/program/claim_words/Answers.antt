use Rattle.ltl_cli.proofs.RunLaws.{shows_more}
use Rattle.ltl_claims.specs.Plans.{requested}
use Rattle.ltl_claims.proofs.program.claim_words.Goals as goal

pub returns-clause-shown : goal.returns-clause-shown
returns-clause-shown g c = shows_more (λ seen m. (requested c.planned-plan.result, c.planned-plan.ensures, m)) c.claim_plan.ensures.shown

pub returns-clause-opened : goal.returns-clause-opened
returns-clause-opened g c = (requested c.planned-plan.result, c.planned-plan.ensures, c.claim_plan.ensures.opened)
