use Rattle.ltl_pictures.proofs.AcceptLaws.{run_accepts}
use Rattle.ltl_pictures.proofs.laws.accepting_run_accepts.Goals as goal

pub returns : goal.returns
returns c = λ A w run h. run_accepts A w run h
