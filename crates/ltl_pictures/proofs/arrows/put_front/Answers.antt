use Rattle.std.proofs.Common.{refl, sym}
use Rattle.ltl_streams.proofs.PrintLaws.{lacks_all, lacks_last, lacks_step, prints_nothing}
use Rattle.ltl_pictures.proofs.arrows.put_front.Goals as goal

pub returns : goal.returns
returns g c =
    let first = lacks_step (lacks_all _ _) _ refl c.put.ensures in
    let second = lacks_step first _ refl c.put_number.ensures in
    let third = lacks_step second _ refl c.put-2.ensures in
    let fourth = lacks_step third _ refl c.put_number-2.ensures in
    lacks_last (lacks_step fourth _ (sym c.label_start.ensures) (prints_nothing _)) c.put-3.ensures
