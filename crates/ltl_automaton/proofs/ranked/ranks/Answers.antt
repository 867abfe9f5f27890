use Rattle.std.proofs.lemmas.Option.{slice_get-get_or}
use Rattle.std.proofs.Common.{ap, ◌≡◌, ◌∙◌, arith, sym, slice_get, Some}
use Rattle.ltl_automaton.proofs.NetLaws.{stands_at}
use Rattle.ltl_automaton.proofs.TableLaws.{not_missed, places_done, places_next, ranked_there}
use Rattle.ltl_automaton.proofs.ranked.ranks.Goals as goal
use Rattle.ltl_automaton.proofs.ranked.ranks.Goals.{in-Some+in_ok-ranks, in_default}

pub loop-place-preserved : goal.loop-place-preserved
loop-place-preserved g c =
    let order = g.met.T.ListOrder.linear in
    let values = c.args.values.now.keys in
    let x = c.index-sorted-place.result in
    let is : slice_get c.args.sorted.now c.loop-place.place ≡ Some x = slice_get-get_or c.args.sorted.now c.loop-place.place x c.loop-place-test.true ∙ ap (λ y. Some y) (sym c.index-sorted-place.is) in
    elim c.match-place.branch [
      | in-Some+in_ok-ranks w ↦ places_next order values c.args.sorted.now c.loop-place.ranks.items c.match-place.ranks.items c.loop-place.place w.in-Some.number _ x c.requires.once c.requires.sorted c.loop-place.invariant
          is (stands_at g.T.PartialEq.eq (λ y z. (g.met.T.ListOrder.decides y z).0) x values (Some w.in-Some.number) (sym w.in-Some.is ∙ c.place.ensures)) w.in_ok-ranks.ensures (λ i. (w.ranks-is i).items)
      | in_default w ↦ absurd (not_missed g.T.PartialEq.eq g.met.T.ListOrder.decides x values (ranked_there order values c.args.sorted.now c.loop-place.place x c.requires.sorted is) (sym w.in_default.is ∙ c.place.ensures))
    ]

pub returns : goal.returns
returns g c =
    places_done g.met.T.ListOrder.linear c.args.values.now.keys c.args.sorted.now c.loop-place.ranks.items c.loop-place.place c.requires.sorted c.loop-place.invariant (omega (arith, c.loop-place-test.false))
