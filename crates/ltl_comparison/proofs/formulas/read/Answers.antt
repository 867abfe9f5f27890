use Rattle.std.proofs.Common.{refl}
use Rattle.ltl_comparison.proofs.formulas.read.Goals as goal

pub returns-in-Ok : goal.returns-in-Ok
returns-in-Ok g c =
    let (input, s, h) = c.formula_from.ensures.read in
    (input, s, rw c.in-Ok.is at h)

pub returns-in-Err : goal.returns-in-Err
returns-in-Err g c =
    let (input, s, h) = c.formula_from.ensures.read in
    (input, s, (refl, rw c.in-Err.is at h))
