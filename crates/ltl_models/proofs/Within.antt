-- What holds of all edges.
use Rattle.std.proofs.Common.{◌≡◌, ℕ, true, inl, inr, List, [], length, map, sym, subst}
use Rattle.std.specs.Prelude.{All}
use Rattle.std.proofs.lemmas.List.{get_or_past}
use Rattle.std.proofs.lemmas.List.Elements.{All-get_or, All-nil}
use Rattle.std.proofs.lemmas.Bool.{cases_lt}
use Rattle.ltl_spec.specs.Automata.Automaton.{Automaton, State, Edge, state_at}
use Rattle.ltl_automaton.proofs.EdgeLaws.{All_from_map}

-- what holds of the edges of all states holds of those of one
pub edges_within : (A : Automaton) (P : Edge → Type 0) (i : ℕ) → All (λ s. All P s.edges) A.states → All P (state_at A i).edges
edges_within A P i a =
    let none : State = record { accepting = true; edges = [] } in
    elim (cases_lt i (length A.states)) [
      | inl l ↦ All-get_or (λ (s : State). All P s.edges) A.states i none l a
      | inr l ↦ let Q : State → Type 0 = λ s. All P s.edges in subst Q (sym (get_or_past A.states i none l)) (All-nil P)
    ]

-- and of the edges of the code, where those are the ones that are seen
pub seen_within : {X : Type 0} (f : X → Edge) (A : Automaton) (P : Edge → Type 0) (i : ℕ) (xs : List X) → map f xs ≡ (state_at A i).edges → All (λ s. All P s.edges) A.states → All (λ x. P (f x)) xs
seen_within f A P i xs e a = All_from_map P f xs (subst (All P) (sym e) (edges_within A P i a))
