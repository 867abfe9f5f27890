use Rattle.std.proofs.Common.{◌∙◌, ◌<◌, arith, map, ap, sym, subst}
use Rattle.ltl_spec.specs.Collections.Lists.{place_of, with_new}
use Rattle.std.proofs.lemmas.List.{get_or-map, length-map, take_all}
use Rattle.ltl_automaton.specs.Net.{edges_to, places_in}
use Rattle.ltl_automaton.proofs.NetLaws.{decides_from, edges_by_places, keys_next, places_next}
use Rattle.ltl_automaton.proofs.explore.numbered.Goals as goal

pub loop-step-preserved : goal.loop-step-preserved
loop-step-preserved g c =
    let same = g.K.PartialEq.eq in
    let view = g.T.Step.move_of in
    let decides = decides_from same g.met.K.Eq.laws g.met.K.Key.exact in
    let old = c.args.listing.now.keys in
    let keys = c.loop-step.listing.keys in
    let more = c.number.new.self.keys in
    let moves = map view c.args.steps.now in
    let x = c.step-item.result in
    let a = view x in
    let i = c.loop-step.step-index in
    let less = subst (λ n. i < n) (sym (length-map c.args.steps.now view)) c.loop-step-test.true in
    let is = ap view c.step-item.is ∙ sym (get_or-map view c.args.steps.now i x a c.loop-step-test.true) in
    let listed = c.in_ok-target.ensures.keys ∙ ap (with_new same keys) c.key.ensures in
    let place = c.in_ok-target.ensures.number ∙ ap (λ k. place_of same k more) c.key.ensures in
    record {
      keys = keys_next same decides old keys more moves i a c.loop-step.invariant.keys less is listed;
      explored = c.number.ensures.explored ∙ c.loop-step.invariant.explored;
      places = places_next same decides old keys more moves i a c.in_ok-target.target c.loop-step.targets.items c.push.new.self.items c.loop-step.invariant.keys less is listed place c.loop-step.invariant.places c.in_ok-push.ensures.items;
    }

pub returns-clause-edges : goal.returns-clause-edges
returns-clause-edges g c =
    let same = g.K.PartialEq.eq in
    let view = g.T.Step.move_of in
    let moves = map view c.args.steps.now in
    let long = length-map c.args.steps.now view in
    let whole = take_all c.loop-step.step-index moves (omega (arith, long, c.loop-step-test.false)) in
    let places = c.loop-step.invariant.places ∙ ap (places_in same c.loop-step.listing.keys) whole in
    ap (edges_to moves) places ∙ edges_by_places same (decides_from same g.met.K.Eq.laws g.met.K.Key.exact) c.loop-step.listing.keys moves
