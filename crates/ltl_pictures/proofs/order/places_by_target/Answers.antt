use Rattle.std.proofs.Common.{◌≡◌, sym, subst, arith, ◌∙◌, ap, length, IsPermutation}
use Rattle.std.specs.Prelude.{map}
use Rattle.std.proofs.lemmas.List.{length-map}
use Rattle.ltl_models.proofs.SortLaws.{refilled}
use Rattle.ltl_hoa.specs.MarkedView.{edge_of}
use Rattle.ltl_models.specs.BaView.{IsTargetOrder}
use Rattle.ltl_models.proofs.PlacedLaws.{place_in, IsPlaced, placed_none, placed_next, placed_order}
use Rattle.ltl_pictures.proofs.OrderLaws.{placed_here}
use Rattle.ltl_pictures.proofs.order.places_by_target.Goals as goal

pub loop-place-init : goal.loop-place-init
loop-place-init g c = (subst (λ items. IsPlaced (map edge_of c.args.edges.now) 0 items) (sym c.in_ok-keys.ensures.items) (placed_none (map edge_of c.args.edges.now)), omega arith)

pub loop-place-preserved : goal.loop-place-preserved
loop-place-preserved g c =
    let small = c.in_ok-key.ensures.small in (
      placed_next (map edge_of c.args.edges.now) c.loop-place.place c.loop-place.keys.items c.push.new.self.items _ small c.loop-place.invariant.0
          (c.in_ok-key.ensures.key ∙ placed_here c.args.edges.now c.loop-place.place c.index-edges-place.result c.loop-place-test.true c.index-edges-place.is) c.in_ok-push.ensures.ok,
      omega (arith, small),
    )

pub returns : goal.returns
returns g c =
    let long = length-map c.args.edges.now edge_of in
    let all : c.loop-place.place ≡ length (map edge_of c.args.edges.now) = omega arith in
    let shown = c.as_mut_slice.ensures.value in
    let new = c.sort_unstable.new.self in
    let moved = subst (λ xs. IsPermutation xs new) shown c.sort_unstable.ensures.permutation in
    let ordered = placed_order (map edge_of c.args.edges.now) c.loop-place.place c.loop-place.keys.items new c.loop-place.invariant.1 c.loop-place.invariant.0 all moved c.sort_unstable.ensures.sorted in
    let listed = c.as_slice.ensures ∙ refilled c.loop-place.keys.items c.as_mut_slice.result.now new shown c.sort_unstable.ensures.len in
    record { order = subst (IsTargetOrder (map edge_of c.args.edges.now)) (sym (c.in_ok-places.ensures ∙ ap (map place_in) listed)) ordered }
