use Rattle.std.proofs.Common.{map, string_bytes, ap, sym}
use Rattle.ltl_spec.specs.Automata.GeneralizedText.{marks_text}
use Rattle.ltl_hoa.specs.MarkedView.{edge_of}
use Rattle.ltl_streams.proofs.PrintLaws.{lacks_all, lacks_last, lacks_step, prints_as, prints_nothing}
use Rattle.ltl_pictures.proofs.PutLaws.{plain_edge, shown_edge}
use Rattle.ltl_pictures.proofs.label.put_edge.Goals as goal

pub returns-else-style : goal.returns-else-style
returns-else-style g c = prints_as (sym (plain_edge (map string_bytes c.args.names.now) c.args.style.red c.args.style.shown (edge_of c.args.edge.now) c.if-style.false)) c.put_formula.ensures

pub returns-then-style : goal.returns-then-style
returns-then-style g c =
    let e = shown_edge (map string_bytes c.args.names.now) c.args.style.red c.args.style.shown (edge_of c.args.edge.now) c.if-style.true in
    let first = lacks_step (lacks_all _ _) _ e c.put_formula.ensures in
    lacks_last (lacks_step first _ (ap marks_text (sym c.to_row_set.ensures)) (prints_nothing _)) c.put_marks.ensures
