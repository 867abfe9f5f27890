use Rattle.std.proofs.Common.{map, ◌∙◌, ◌∷◌, [], ◌++◌, ap, arith}
use Rattle.ltl_automaton.specs.declared.shared.SharedState.{SharedState}
use Rattle.ltl_automaton.proofs.SharedLaws.{shared_more, shared_is}
use Rattle.ltl_automaton.proofs.shared.SharedStates.push.Goals as goal

pub invariant_of-self-2 : goal.invariant_of-self-2
invariant_of-self-2 g c =
    let p : SharedState = record { list = c.len-list.result; accepting = c.args.accepting } in
    shared_more c.self.inside.lists.items c.push.new.self.items (map g.E.EdgeType.edge_of c.args.edges.items) p (c.in_ok-push.ensures.items ∙ ap (λ es. c.self.inside.lists.items ++ es ∷ []) c.new.ensures) (omega (arith, c.len-list.ensures, c.self.inside.lists.ok.0)) c.self.inside.states.items c.push-2.new.self.items
    (c.in_ok-push-2.ensures.items ∙ ap (λ ps. ps ++ p ∷ []) c.in_ok-reserve.ensures.items) c.self.invariant

pub returns : goal.returns
returns g c =
    let p : SharedState = record { list = c.len-list.result; accepting = c.args.accepting } in
    record {
      ok = shared_is c.self.inside.lists.items c.push.new.self.items (map g.E.EdgeType.edge_of c.args.edges.items) p (c.in_ok-push.ensures.items ∙ ap (λ es. c.self.inside.lists.items ++ es ∷ []) c.new.ensures) (omega (arith, c.len-list.ensures, c.self.inside.lists.ok.0)) c.self.inside.sets c.self.inside.states.items c.push-2.new.self.items c.args.self.now
          (c.in_ok-push-2.ensures.items ∙ ap (λ ps. ps ++ p ∷ []) c.in_ok-reserve.ensures.items) c.self.invariant c.self.view_is;
    }
