use Rattle.std.proofs.Common.{refl}
use Rattle.ltl_syntax.specs.FormulaView.{reading_of}
use Rattle.ltl_c.proofs.ComparisonLaws.{fault_refused}
use Rattle.ltl_c.proofs.comparison.related.Goals as goal

pub returns-in-Ok : goal.returns-in-Ok
returns-in-Ok g c = (rw c.in-Ok.is at c.compare.ensures.compares, rw c.in-Ok.is at c.compare.ensures.step)

pub returns-in-Err : goal.returns-in-Err
returns-in-Err g c =
    (refl, fault_refused (reading_of c.args.first.now) (reading_of c.args.second.now) c.in-Err.fault _ c.refusal_for.ensures (rw c.in-Err.is at c.compare.ensures.step))
