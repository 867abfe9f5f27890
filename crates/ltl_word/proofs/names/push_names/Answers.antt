use Rattle.std.proofs.Common.{◌≡◌, ◌∙◌, ◌<◌, sym, subst, length, map, []}
use Rattle.std.specs.Prelude.{slice_index_or}
use Rattle.std.specs.List.{AllByRecursion}
use Rattle.ltl_word.proofs.NameLaws.{mapped_at}
use Rattle.ltl_word.proofs.StandingNames.{name_more}
use Rattle.ltl_word.proofs.names.push_names.Goals as goal

pub loop-place-preserved : goal.loop-place-preserved
loop-place-preserved g c =
    let names = map (λ n. n.items) c.args.names.now in
    let inside = subst (AllByRecursion (λ i. i < length c.args.names.now)) c.in-Some.ensures.steps c.loop-place.invariant.within in
    let here : slice_index_or names c.in-Some.place [] ≡ c.as_slice.result.now = mapped_at (λ n. n.items) c.args.names.now c.index-names-place.result c.in-Some.place inside.0 c.index-names-place.is ∙ sym c.as_slice.ensures in
    record {
      within = inside.1;
      names = name_more names c.loop-place.list.items _ c.as_slice.result c.loop-place.place-iterator c.in-Some.place _ _ c.in-Some.ensures.steps here c.in_ok-push.ensures.items c.loop-place.invariant.names;
    }
