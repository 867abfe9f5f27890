use Rattle.std.proofs.Common.{arith, ◌<◌, ℕ, refl, map, length, string_bytes}
use Rattle.std.proofs.lemmas.List.{drop_more}
use Rattle.ltl_hoa.specs.MarkedView.{edge_of}
use Rattle.ltl_streams.proofs.PrintLaws.{lacks_all, lacks_step}
use Rattle.ltl_text.proofs.TextLaws.{first_all, others_all}
use Rattle.ltl_pictures.specs.Picked.{is_set}
use Rattle.ltl_pictures.proofs.EdgeLaws.{edge_is, named_is, parts_begin, parts_go_on}
use Rattle.ltl_pictures.proofs.arrows.put_parts.Goals as goal

pub put_part-requires : goal.put_part-requires
put_part-requires g c =
    let P : ℕ → Type 0 = λ p. p < length c.args.row.edges.now in
    named_is _ c.args.row.edges.now _ c.index-edges-first.result c.requires.named (first_all P _ _ _ c.in-Some.ensures.cases.0 c.requires.within) c.index-edges-first.is

pub loop-place-init : goal.loop-place-init
loop-place-init g c =
    let P : ℕ → Type 0 = λ p. p < length c.args.row.edges.now in
    let within = first_all P _ _ _ c.in-Some.ensures.cases.0 c.requires.within in
    let e = parts_begin (map string_bytes c.args.names.now) c.args.style.shown (is_set c.args.row.taken.now) (map edge_of c.args.row.edges.now) c.args.style.red c.args.between.now _ _ _ _ _ c.in-Some.ensures.cases.0 (edge_is c.args.row.edges.now _ c.index-edges-first.result within c.index-edges-first.is) c.is_taken-first_taken.ensures in
    record {
      within = others_all P _ _ _ c.in-Some.ensures.cases.0 c.requires.within;
      text = lacks_step (lacks_all _ _) _ e c.put_part.ensures;
    }

pub put_part-requires-in-loop-place : goal.put_part-requires-in-loop-place
put_part-requires-in-loop-place g c =
    let lt : c.loop-place.place-index < length c.in-Some.others.now = omega arith in
    named_is _ c.args.row.edges.now _ c.index-edges-place.result c.requires.named (c.loop-place.invariant.within c.loop-place.place-index 0 lt) c.index-edges-place.is

pub loop-place-preserved : goal.loop-place-preserved
loop-place-preserved g c =
    let lt : c.loop-place.place-index < length c.in-Some.others.now = omega arith in
    let f = edge_is c.args.row.edges.now _ c.index-edges-place.result (c.loop-place.invariant.within c.loop-place.place-index 0 lt) c.index-edges-place.is in
    let e = parts_go_on (map string_bytes c.args.names.now) c.args.style.shown (is_set c.args.row.taken.now) (map edge_of c.args.row.edges.now) c.args.style.red c.args.between.now _ _ _ _ _ (drop_more c.in-Some.others.now c.loop-place.place-index 0 lt) f c.is_taken-taken.ensures in
    let between = lacks_step c.loop-place.invariant.text _ e c.put.ensures in
    record {
      within = c.loop-place.invariant.within;
      text = lacks_step between _ refl c.put_part-in-loop-place.ensures;
    }
