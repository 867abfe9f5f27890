use Rattle.std.proofs.Common.{length, map, string_bytes, ◌<◌}
use Rattle.std.specs.Prelude.{All, flat_map}
use Rattle.ltl_spec.specs.Collections.Sets.{IsRising}
use Rattle.ltl_hoa.specs.MarkedView.{edge_of}
use Rattle.ltl_models.specs.BaView.{target_at}
use Rattle.ltl_pictures.proofs.ArrowLaws.{placed_text}
use Rattle.ltl_streams.proofs.PrintLaws.{Lacks}
use Rattle.ltl_text.proofs.OptionLaws.{entries, place_cmp}
use Rattle.ltl_pictures.specs.DotText.{arrow_text}
use Rattle.ltl_pictures.specs.Picked.{is_set}
use Rattle.ltl_pictures.specs.Picture.{arrows}
use Rattle.ltl_pictures.proofs.arrows.put_arrows.Given as goal

abbrev pub invariant-arrows : goal.invariant-arrows
invariant-arrows g l = record {
  within : All (λ p. p < length l.row.edges.now) l.rest;
  rising : IsRising (place_cmp (target_at (map edge_of l.row.edges.now))) l.rest;
  text : Lacks g.S.ByteSink.state l.fn.out l.out
      (entries (target_at (map edge_of l.row.edges.now)) (placed_text (map string_bytes l.names) l.shown (is_set l.row.taken.now) (map edge_of l.row.edges.now) l.k) l.rest)
      (flat_map (arrow_text (map string_bytes l.names) l.shown (is_set l.row.taken.now) (map edge_of l.row.edges.now)) (arrows l.k (map edge_of l.row.edges.now)));
}

abbrev pub decreases-arrows : goal.decreases-arrows
decreases-arrows g l = length l.rest
