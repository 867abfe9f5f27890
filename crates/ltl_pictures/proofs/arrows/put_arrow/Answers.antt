use Rattle.std.proofs.Common.{map, refl, string_bytes}
use Rattle.ltl_hoa.specs.MarkedView.{edge_of}
use Rattle.ltl_pictures.specs.Picked.{is_set}
use Rattle.ltl_pictures.proofs.ArrowLaws.{arrow_pieces}
use Rattle.ltl_streams.proofs.PrintLaws.{lacks_all, lacks_last, lacks_step}
use Rattle.ltl_pictures.proofs.arrows.put_arrow.Goals as goal

pub returns : goal.returns
returns g c =
    let e = arrow_pieces (map string_bytes c.args.names.now) c.args.shown (is_set c.args.row.taken.now) (map edge_of c.args.row.edges.now) c.args.from c.args.to c.args.row.places.now _ _ _ _
    c.is_one_taken-red.ensures c.is_broken.ensures c.or_text-between.ensures c.label_end.ensures in
    let first = lacks_step (lacks_all _ _) _ e c.put_front.ensures in
    let second = lacks_step first _ refl c.put_parts.ensures in
    lacks_last second c.put.ensures
