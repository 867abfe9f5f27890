use Rattle.std.proofs.Common.{◌≡◌, refl, ◌<◌, [], ◌∙◌, ap, sym, subst, arith, length, map}
use Rattle.std.specs.Prelude.{slice_index_or}
use Rattle.std.proofs.lemmas.List.{get_or-map, length-map}
use Rattle.ltl_spec.specs.Automata.Automaton.{Automaton, State, state_at}
use Rattle.ltl_automaton.specs.CodedEdges.{table_of}
use Rattle.ltl_automaton.specs.Labels.{labelled_edge}
use Rattle.ltl_automaton.specs.SharedView.{automaton_of}
use Rattle.ltl_automaton.proofs.TableLaws.{state_at_labelled}
use Rattle.ltl_models.proofs.PlacedLaws.{order_kept}
use Rattle.ltl_models.specs.BaView.{IsTargetOrder}
use Rattle.ltl_models.proofs.automaton.Ba.by_target.Goals as goal

pub returns : goal.returns
returns g c =
    let t = table_of c.self.inside.states.table in
    let A = automaton_of c.self.inside.states.states in
    let orders = c.self.inside.orders.items in
    let list = c.list-list.result in
    let ordered = c.self.invariant.ordered in
    let long = ordered.long in
    let same = length-map orders (λ p. p.items) in
    let below = c.list-list.ensures.within in
    let inside : list < length orders = omega arith in
    let places : slice_index_or (map (λ p. p.items) orders) list [] ≡ c.as_slice.result.now = get_or-map (λ p. p.items) orders list c.index.result.now [] inside ∙ ap (λ p. p.items) (sym c.index.ensures) ∙ sym c.as_slice.ensures in
    record {
      order = subst (λ (B : Automaton). IsTargetOrder (state_at B c.args.i).edges c.as_slice.result.now) c.self.view_is
          (subst (λ (s : State). IsTargetOrder s.edges c.as_slice.result.now) (sym (state_at_labelled t A c.args.i))
          (order_kept (labelled_edge t) (λ e. refl) (state_at A c.args.i).edges c.as_slice.result.now
          (subst (IsTargetOrder (state_at A c.args.i).edges) places (ordered.orders list (state_at A c.args.i).edges c.list-list.ensures.edges))));
    }
