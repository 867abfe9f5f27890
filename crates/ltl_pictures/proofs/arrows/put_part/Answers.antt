use Rattle.std.proofs.Common.{refl, sym}
use Rattle.ltl_streams.proofs.PrintLaws.{lacks_all, lacks_last, lacks_step, prints_as}
use Rattle.ltl_pictures.proofs.PutLaws.{other_part, taken_part}
use Rattle.ltl_pictures.proofs.arrows.put_part.Goals as goal

pub returns-then-taken : goal.returns-then-taken
returns-then-taken g c =
    let first = lacks_step (lacks_all _ _) _ (taken_part c.args.taken _ c.if-taken.true) c.put.ensures in
    let second = lacks_step first _ refl c.put_edge.ensures in
    lacks_last second c.put-then-taken.ensures

pub returns-else-taken : goal.returns-else-taken
returns-else-taken g c = prints_as (sym (other_part c.args.taken _ c.if-taken.false)) c.put_edge-else-taken.ensures
