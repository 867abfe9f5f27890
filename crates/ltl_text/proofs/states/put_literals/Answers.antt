use Rattle.std.proofs.Common.{refl}
use Rattle.ltl_streams.proofs.PrintLaws.{lacks_all, lacks_step}
use Rattle.ltl_text.proofs.HoaLaws.{label_begins, label_goes_on}
use Rattle.ltl_text.proofs.states.put_literals.Goals as goal

pub loop-literal-init : goal.loop-literal-init
loop-literal-init g c =
    let e = label_begins _ _ _ _ c.iter-literals.ensures.literals c.in-Some.ensures.steps in
    rw c.into_iter-literal-iterator.ensures.into_iter_gives (lacks_step (lacks_all _ _) _ e c.put_literal.ensures)

pub loop-literal-preserved : goal.loop-literal-preserved
loop-literal-preserved g c =
    let e = label_goes_on _ _ _ c.in-Some-literal.ensures.steps in
    lacks_step (lacks_step c.loop-literal.invariant _ e c.put-in-loop-literal.ensures) _ refl c.put_literal-in-loop-literal.ensures
