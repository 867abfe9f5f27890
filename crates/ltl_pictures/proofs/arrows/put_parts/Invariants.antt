use Rattle.std.proofs.Common.{◌<◌, length, map, string_bytes}
use Rattle.std.specs.Prelude.{drop, All}
use Rattle.ltl_hoa.specs.MarkedView.{edge_of}
use Rattle.ltl_streams.proofs.PrintLaws.{Lacks}
use Rattle.ltl_text.proofs.TextLaws.{led}
use Rattle.ltl_pictures.specs.Picked.{is_set}
use Rattle.ltl_pictures.specs.Pieces.{parts_text}
use Rattle.ltl_pictures.proofs.EdgeLaws.{parts_of}
use Rattle.ltl_pictures.proofs.arrows.put_parts.Given as goal

abbrev pub invariant-loop-place : goal.invariant-loop-place
invariant-loop-place g l = record {
  within : All (λ p. p < length l.row.edges.now) l.others;
  text : Lacks g.S.ByteSink.state l.fn.out l.out
      (led l.between (parts_of (map string_bytes l.names) l.style.shown (is_set l.row.taken.now) (map edge_of l.row.edges.now) l.style.red l.between (drop l.place-index l.others)))
      (parts_text (map string_bytes l.names) l.style.shown (is_set l.row.taken.now) (map edge_of l.row.edges.now) l.style.red l.between l.row.places.now);
}
