use Rattle.std.proofs.Common.{refl}
use Rattle.ltl_streams.proofs.PrintLaws.{lacks_all, lacks_last, lacks_step}
use Rattle.ltl_pictures.proofs.PutLaws.{label_pieces}
use Rattle.ltl_pictures.proofs.picture.put_label.Goals as goal

pub returns : goal.returns
returns g c =
    let first = lacks_step (lacks_all _ _) _ (label_pieces c.args.name.now c.args.k) c.put.ensures in
    let second = lacks_step first _ refl c.put_number.ensures in
    let third = lacks_step second _ refl c.put-2.ensures in
    let fourth = lacks_step third _ refl c.put_name.ensures in
    lacks_last fourth c.put-3.ensures
