use Rattle.std.proofs.Common.{◌≡◌, ◌∙◌, ◌<◌, sym, subst, length, map, [], refl}
use Rattle.std.specs.Prelude.{slice_index_or}
use Rattle.std.specs.List.{AllByRecursion}
use Rattle.ltl_streams.proofs.PrintLaws.{lacks_all, lacks_last, lacks_step, prints_nothing}
use Rattle.ltl_word.proofs.NameLaws.{mapped_at}
use Rattle.ltl_word.proofs.TextLaws.{names_begin, names_end, names_go_on}
use Rattle.ltl_word.proofs.printing.put_letter.Goals as goal

pub loop-place-init : goal.loop-place-init
loop-place-init g c =
    rw (c.into_iter-place-iterator.ensures.into_iter_gives, c.iter-place-items.ensures.members) (record { within = c.requires; text = lacks_step (lacks_all _ _) _ (names_begin _) c.put.ensures })

pub loop-place-preserved : goal.loop-place-preserved
loop-place-preserved g c =
    let names = map (λ n. n.items) c.args.names.now in
    let inside = subst (AllByRecursion (λ i. i < length c.args.names.now)) c.in-Some.ensures.steps c.loop-place.invariant.within in
    let here : slice_index_or names c.in-Some.place [] ≡ c.as_slice.result.now = mapped_at (λ n. n.items) c.args.names.now c.index-names-place.result c.in-Some.place inside.0 c.index-names-place.is ∙ sym c.as_slice.ensures in
    let between = lacks_step c.loop-place.invariant.text _ (names_go_on names c.loop-place.between.now c.loop-place.place-iterator c.in-Some.place c.next.new.self c.as_slice.result.now c.in-Some.ensures.steps here) c.put-in-loop-place.ensures in
    record { within = inside.1; text = lacks_step between _ refl c.put-in-loop-place-2.ensures }

pub returns : goal.returns
returns g c = lacks_last (lacks_step c.loop-place.invariant.text _ (names_end _ _ _ c.in-None.ensures.steps.0) (prints_nothing _)) c.put-2.ensures
