use Rattle.std.proofs.Common.{◌<◌, ◌∙◌, length, sym, subst, ap, slice_get}
use Rattle.ltl_spec.specs.Automata.Automaton.{state_at}
use Rattle.ltl_automaton.specs.SharedView.{Shared, automaton_of}
use Rattle.ltl_automaton.specs.declared.shared.SharedState.{SharedState}
use Rattle.ltl_automaton.proofs.SharedLaws.{shared_again, again_is}
use Rattle.ltl_automaton.proofs.shared.SharedStates.push_like.Goals as goal

pub invariant_of-self-2 : goal.invariant_of-self-2
invariant_of-self-2 g c =
    let p : SharedState = record { list = c.list-list.result; accepting = c.args.accepting } in
    shared_again c.self.inside.lists.items c.self.inside.states.items c.push.new.self.items p c.in_ok-push.ensures.items (subst (λ (s : Shared). c.list-list.result < length s.lists) (sym c.self.view_is) c.list-list.ensures.within) c.self.invariant

pub returns : goal.returns
returns g c =
    let p : SharedState = record { list = c.list-list.result; accepting = c.args.accepting } in
    record {
      ok = again_is c.self.inside.sets c.self.inside.lists.items c.self.inside.states.items c.push.new.self.items p (state_at (automaton_of c.args.self.now) c.args.i).edges c.args.self.now c.in_ok-push.ensures.items
          (ap (λ (s : Shared). slice_get s.lists c.list-list.result) c.self.view_is ∙ c.list-list.ensures.edges) c.self.invariant c.self.view_is;
    }
