use Rattle.std.proofs.Common.{refl}
use Rattle.ltl_streams.proofs.PrintLaws.{lacks_all, lacks_last, lacks_step, prints_nothing}
use Rattle.ltl_text.proofs.HoaLaws.{marks_begin, marks_end, marks_go_on}
use Rattle.ltl_text.proofs.states.put_marks.Goals as goal

pub loop-number-init : goal.loop-number-init
loop-number-init g c =
    let e = marks_begin _ _ _ _ c.iter-numbers.ensures.members c.in-Some.ensures.steps in
    let opened = lacks_step (lacks_all _ _) _ e c.put.ensures in
    rw c.into_iter-number-iterator.ensures.into_iter_gives (lacks_step opened _ refl c.put_number.ensures)

pub loop-number-preserved : goal.loop-number-preserved
loop-number-preserved g c =
    let e = marks_go_on _ _ _ c.in-Some-number.ensures.steps in
    lacks_step (lacks_step c.loop-number.invariant _ e c.put-in-loop-number.ensures) _ refl c.put_number-in-loop-number.ensures

pub returns : goal.returns
returns g c =
    let e = marks_end _ c.in-None.ensures.steps.0 in
    lacks_last (lacks_step c.loop-number.invariant _ e (prints_nothing _)) c.put-2.ensures
