use Rattle.std.proofs.Common.{arith}
use Rattle.ltl_pictures.proofs.PutLaws.{many_sets}
use Rattle.ltl_streams.proofs.PrintLaws.{lacks_all, lacks_last, lacks_step}
use Rattle.ltl_pictures.proofs.picture.put_acceptance_name.Goals as goal

pub returns-else-sets-eq1 : goal.returns-else-sets-eq1
returns-else-sets-eq1 g c =
    let first = lacks_step (lacks_all _ _) _ (many_sets c.args.sets (omega arith)) c.put-else-sets-eq1.ensures in
    lacks_last first c.put_number.ensures
