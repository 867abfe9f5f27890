use Rattle.std.proofs.Common.{◌≡◌, [], ◌<◌, ◌∙◌, ap, sym, subst, length}
use Rattle.std.specs.Prelude.{All}
use Rattle.ltl_spec.specs.Automata.Automaton.{Automaton, Edge, state_at}
use Rattle.ltl_automaton.specs.CodedEdges.{labelled_edge_of}
use Rattle.ltl_automaton.specs.LabelTables.{labelled_of}
use Rattle.ltl_automaton.specs.declared.coded_edge.CodedEdge as code
use Rattle.ltl_models.proofs.Within.{edges_within, seen_within}
use Rattle.ltl_models.proofs.automaton.Ba.edges.Goals as goal

pub returns-clause-edges : goal.returns-clause-edges
returns-clause-edges g c = c.edges.ensures ∙ ap (λ (B : Automaton). (state_at B c.args.i).edges) c.self.view_is

pub returns-clause-within : goal.returns-clause-within
returns-clause-within g c =
    let A = labelled_of c.self.inside.states in
    subst (λ (B : Automaton). All (λ (e : code.CodedEdge). e.target < length B.states) c.edges.result.coded.now) c.self.view_is
    (seen_within (labelled_edge_of c.edges.result.labels) A (λ (e : Edge). e.target < length A.states) c.args.i c.edges.result.coded.now c.edges.ensures c.self.invariant.inside.within)

pub returns-clause-plain : goal.returns-clause-plain
returns-clause-plain g c =
    let P : Edge → Type 0 = λ e. e.marks ≡ [] in
    subst (All P) (sym c.edges.ensures) (edges_within (labelled_of c.self.inside.states) P c.args.i c.self.invariant.inside.plain)
