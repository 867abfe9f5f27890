-- An explicit automaton whose states share edge lists.
use Rattle.std.specs.Prelude.{◌≡◌, ℕ, ◌<◌, Bool, List, [], ◌∷◌, ◌++◌, length, map, slice_index_or, All}
use Rattle.ltl_spec.specs.Automata.Automaton.{Automaton, State, Edge}
use Rattle.ltl_spec.specs.Collections.Sets.{Has}
use Rattle.ltl_automaton.specs.declared.shared.SharedState.{SharedState}

-- the lists of edges, and for each state the number of its list
pub record Shared : Type 0 where
  pub sets : ℕ
  pub lists : List (List Edge)
  pub states : List SharedState

-- the state at a place
abbrev pub state_in : List (List Edge) → SharedState → State
state_in lists p = record { accepting = p.accepting; edges = slice_index_or lists p.list [] }

abbrev pub states_in : List (List Edge) → List SharedState → List State
states_in lists places = map (state_in lists) places

-- the automaton that it is
abbrev pub automaton_of : Shared → Automaton
automaton_of s = record { sets = s.sets; states = states_in s.lists s.states }

-- each state has a list
abbrev pub ArePlaces : List (List Edge) → List SharedState → Type 0
ArePlaces lists places = All (λ p. p.list < length lists) places

-- and each list is the list of a state
pub record IsShared (lists : List (List Edge)) (states : List SharedState) : Type 0 where
  pub places : ArePlaces lists states
  pub used : (k : ℕ) → k < length lists → (p : SharedState) × Has states p × (p.list ≡ k)

-- the automaton with one more state
abbrev pub with_state : Automaton → Bool → List Edge → Automaton
with_state A accepting edges = record { sets = A.sets; states = A.states ++ record { accepting = accepting; edges = edges } ∷ [] }
