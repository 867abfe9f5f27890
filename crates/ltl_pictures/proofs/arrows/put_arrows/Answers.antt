use Rattle.std.proofs.Common.{◌<◌, ℕ, length, map, string_bytes, subst, sym}
use Rattle.ltl_hoa.specs.MarkedView.{edge_of}
use Rattle.ltl_spec.proofs.Collections.MemberLaws.{map_length}
use Rattle.std.specs.Prelude.{All}
use Rattle.ltl_streams.proofs.PrintLaws.{lacks_all, lacks_step, prints_nothing}
use Rattle.ltl_text.proofs.TextLaws.{first_all}
use Rattle.ltl_pictures.specs.Picked.{is_set}
use Rattle.ltl_pictures.proofs.EdgeLaws.{target_there}
use Rattle.ltl_pictures.proofs.ArrowLaws.{arrows_fall, arrows_rise, arrows_step, arrows_within, entries_whole}
use Rattle.ltl_pictures.proofs.arrows.put_arrows.Goals as goal

pub arrows-init : goal.arrows-init
arrows-init g c =
    let es = map edge_of c.args.row.edges.now in
    let ps = c.args.row.places.now in
    record {
      within = subst (λ n. All (λ p. p < n) ps) (map_length edge_of c.args.row.edges.now) c.requires.order.within;
      rising = c.requires.order.rising;
      text = lacks_step (lacks_all _ _) _ (sym (entries_whole es ps c.requires.order (map string_bytes c.args.names.now) c.args.shown (is_set c.args.row.taken.now) c.args.k)) (prints_nothing _);
    }

pub arrows-smaller : goal.arrows-smaller
arrows-smaller g c =
    let P : ℕ → Type 0 = λ p. p < length c.args.row.edges.now in
    let within = first_all P _ _ _ c.in-Some.ensures.cases.0 c.arrows.invariant.within in
    let f = target_there c.args.row.edges.now _ c.index-edges-place.result within in
    arrows_fall (map string_bytes c.args.names.now) c.args.shown (is_set c.args.row.taken.now) c.args.k (map edge_of c.args.row.edges.now) _ _ _ _ _ _ _ c.in-Some.ensures.cases.0 f c.group_len.ensures.group c.arrows.invariant.rising c.split_at.ensures.front c.split_at.ensures.back c.group_len.ensures.within

pub arrows-preserved : goal.arrows-preserved
arrows-preserved g c =
    let P : ℕ → Type 0 = λ p. p < length c.args.row.edges.now in
    let within = first_all P _ _ _ c.in-Some.ensures.cases.0 c.arrows.invariant.within in
    let f = target_there c.args.row.edges.now _ c.index-edges-place.result within in
    let names = map string_bytes c.args.names.now in
    let taken = is_set c.args.row.taken.now in
    let es = map edge_of c.args.row.edges.now in
    let e = arrows_step names c.args.shown taken c.args.k es _ _ _ _ _ _ _ c.in-Some.ensures.cases.0 f c.group_len.ensures.group c.arrows.invariant.rising c.split_at.ensures.front c.split_at.ensures.back in
    record {
      within = arrows_within names c.args.shown taken c.args.k es _ _ _ _ _ _ _ c.in-Some.ensures.cases.0 f c.group_len.ensures.group c.arrows.invariant.rising c.split_at.ensures.front c.split_at.ensures.back P c.arrows.invariant.within;
      rising = arrows_rise names c.args.shown taken c.args.k es _ _ _ _ _ _ _ c.in-Some.ensures.cases.0 f c.group_len.ensures.group c.arrows.invariant.rising c.split_at.ensures.front c.split_at.ensures.back;
      text = lacks_step c.arrows.invariant.text _ e c.put_arrow.ensures;
    }
