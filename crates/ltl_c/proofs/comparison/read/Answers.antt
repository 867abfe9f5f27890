use Rattle.std.proofs.Common.{refl}
use Rattle.ltl_c.proofs.comparison.read.Goals as goal

pub returns-in-Ok : goal.returns-in-Ok
returns-in-Ok g c = rw c.in-Ok.is at c.formula_of.ensures.step

pub returns-in-Err : goal.returns-in-Err
returns-in-Err g c = (refl, rw c.in-Err.is at c.formula_of.ensures.given)
