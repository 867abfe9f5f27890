use Rattle.std.proofs.Common.{length, subst, sym}
use Rattle.std.specs.Prelude.{All}
use Rattle.ltl_spec.specs.Automata.Automaton.{Automaton}
use Rattle.ltl_automaton.specs.CodedEdges.{edges_in}
use Rattle.ltl_models.specs.GbaView.{IsEdgeWithin}
use Rattle.ltl_models.proofs.Within.{edges_within}
use Rattle.ltl_models.proofs.numbered.Gen.edges.Goals as goal

pub returns-clause-within : goal.returns-clause-within
returns-clause-within g c =
    let A = c.self.inside.automaton in
    let P = IsEdgeWithin (length A.states) A.sets in
    subst (λ (B : Automaton). All (IsEdgeWithin (length B.states) B.sets) (edges_in c.edges.result)) c.self.view_is
    (subst (All P) (sym c.edges.ensures) (edges_within A P c.args.i c.invariant.ensures.inside.within))
