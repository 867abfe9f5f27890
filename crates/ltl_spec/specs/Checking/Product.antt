-- The product of two automata: both read one word, one edge of each side at a time.
use Rattle.std.specs.Prelude.{ℕ, ◌+◌, ◌*◌, ◌/◌, ◌%◌, Bool, true, if◌then◌else◌, List, [], ◌∷◌, ◌++◌, length, map, flat_map, filter_map, slice_index_or, Option, option_map}
use Rattle.std.specs.List.{range_with_len}
use Rattle.ltl_spec.specs.Collections.Sets.{set_of}
use Rattle.ltl_spec.specs.Collections.Lists.{place_of}
use Rattle.ltl_spec.specs.Semantics.Word.{Name}
use Rattle.ltl_spec.specs.Formulas.Tokens.{same_name}
use Rattle.ltl_spec.specs.Formulas.Names.{unified}
use Rattle.ltl_spec.specs.Transitions.Cubes.{Literal, Cube, literal_cmp, join_cubes}
use Rattle.ltl_spec.specs.Automata.Automaton.{Automaton, State, Edge, state_at}

-- the automaton with other numbers for its propositions, which `number` gives
module _ (number : ℕ → ℕ) where
  abbrev pub renamed_literal : Literal → Literal
  renamed_literal l = record l { proposition = number l.proposition }

  abbrev pub renamed_cube : Cube → Cube
  renamed_cube c = set_of literal_cmp (map renamed_literal c)

  abbrev pub renamed_edge : Edge → Edge
  renamed_edge e = record e { cube = renamed_cube e.cube }

  abbrev pub renamed_state : State → State
  renamed_state s = record s { edges = map renamed_edge s.edges }

  abbrev pub renamed_automaton : Automaton → Automaton
  renamed_automaton B = record B { states = map renamed_state B.states }

-- One edge of each side, unless their literals contradict each other. It has the marks of the first one, and one more where the second
-- one leaves an accepting state; `number` is that of a pair of states
abbrev pub joined_edge : ℕ → (ℕ → ℕ → ℕ) → Bool → Edge → Edge → Option Edge
joined_edge sets number accepting e f =
    option_map (λ c. record { cube = c; target = number e.target f.target; marks = e.marks ++ (if accepting then sets ∷ [] else []) })
    (join_cubes e.cube f.cube)

-- The states of A are accepting, those of B mark the edges that leave them
module _ (A B : Automaton) where
  -- the number of a pair of states, and the states of a number
  abbrev pub pair_number : ℕ → ℕ → ℕ
  pair_number s t = s * length B.states + t

  abbrev pub first_state : ℕ → ℕ
  first_state k = k / length B.states

  abbrev pub second_state : ℕ → ℕ
  second_state k = k % length B.states

  -- the edges of a pair of states
  abbrev pub joined_edges : State → State → List Edge
  joined_edges s t = flat_map (λ e. filter_map (joined_edge A.sets pair_number t.accepting e) t.edges) s.edges

  abbrev pub joined_state : ℕ → State
  joined_state k = record { accepting = true; edges = joined_edges (state_at A (first_state k)) (state_at B (second_state k)) }

  -- all pairs of states; it has the sets of A and one more
  abbrev pub product_automaton : Automaton
  product_automaton = record { sets = A.sets + 1; states = map joined_state (range_with_len 0 (length A.states * length B.states)) }

-- the names of the first automaton, and those of the second one
module _ (own other : List Name) where
  -- the number of the second one's proposition among the names of both
  abbrev pub unified_number : ℕ → ℕ
  unified_number p = place_of same_name (slice_index_or other p []) (unified own other)

  -- the product over the names of both
  abbrev pub common_graph : Automaton → Automaton → Automaton
  common_graph A B = product_automaton A (renamed_automaton unified_number B)

  -- its start, where A starts in this state and B in state 0
  abbrev pub common_start : Automaton → Automaton → ℕ → ℕ
  common_start A B s = pair_number A (renamed_automaton unified_number B) s 0
