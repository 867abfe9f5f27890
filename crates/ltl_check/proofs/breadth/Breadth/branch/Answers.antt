use Rattle.ltl_check.proofs.BreadthLaws.{on_two, listed_branch}
use Rattle.ltl_check.proofs.breadth.Breadth.branch.Goals as goal

pub returns-clause-listed : goal.returns-clause-listed
returns-clause-listed g c =
    on_two c.meet.result _ _ _ c.meet.ensures.put c.meet.ensures.listed
    (λ p l. listed_branch c.args.task.bases c.args.n c.args.step.now c.args.arrival.now _ _ _ _ _ _ _ c.on_stem-further.ensures c.begun-begun.ensures c.in_ok-add.ensures.there p.0 l)
