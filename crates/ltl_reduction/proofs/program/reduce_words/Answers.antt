use Rattle.ltl_cli.proofs.RunLaws.{shows_more}
use Rattle.ltl_reduction.specs.Plans.{requested}
use Rattle.ltl_reduction.proofs.program.reduce_words.Goals as goal

pub returns-clause-shown : goal.returns-clause-shown
returns-clause-shown g c = shows_more (λ seen m. (requested c.planned-plan.result, c.planned-plan.ensures, m)) c.reduce_plan.ensures.shown

pub returns-clause-opened : goal.returns-clause-opened
returns-clause-opened g c = (requested c.planned-plan.result, c.planned-plan.ensures, c.reduce_plan.ensures.opened)
