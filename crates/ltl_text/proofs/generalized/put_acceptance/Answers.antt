use Rattle.std.proofs.Common.{arith, refl}
use Rattle.ltl_streams.proofs.PrintLaws.{lacks_all, lacks_step}
use Rattle.ltl_text.proofs.HoaLaws.{sets_go_on, some_sets}
use Rattle.ltl_text.proofs.generalized.put_acceptance.Goals as goal

pub loop-k-init : goal.loop-k-init
loop-k-init g c =
    let e = some_sets c.args.sets (omega arith) in
    let first = lacks_step (lacks_all _ _) _ e c.put_number.ensures in
    let second = lacks_step first _ refl c.put-2.ensures in
    lacks_step second _ refl c.put_set.ensures

pub loop-k-preserved : goal.loop-k-preserved
loop-k-preserved g c =
    let e = sets_go_on c.args.sets c.loop-k.k (omega arith) in
    lacks_step (lacks_step c.loop-k.invariant _ e c.put-in-loop-k.ensures) _ refl c.put_set-in-loop-k.ensures
