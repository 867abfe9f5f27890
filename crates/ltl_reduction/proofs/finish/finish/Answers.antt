use Rattle.ltl_reduction.proofs.finish.finish.Goals as goal

pub returns-in-Err-clause-message : goal.returns-in-Err-clause-message
returns-in-Err-clause-message g c = rw c.in-Err.is c.write.ensures
