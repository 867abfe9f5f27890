-- Edges whose labels are numbers, and the tables that give the labels.
use Rattle.std.specs.Prelude.{◌≡◌, ℕ, ◌<◌, true, List, [], ◌∷◌, length, map, slice_get, slice_index_or, Some, All}
use Rattle.std.specs.Ordering.{nat_cmp}
use Rattle.std.specs.Cmp.Lexicographic.{slice_cmp}
use Rattle.ltl_spec.specs.Collections.Sets.{IsRising}
use Rattle.ltl_spec.specs.Transitions.Cubes.{Cube, cube_cmp}
use Rattle.ltl_spec.specs.Automata.Automaton.{Automaton, Edge, State}

-- the different cubes and the different sets of marks, by number
pub record Tables : Type 0 where
  pub cubes : List Cube
  pub marks : List (List ℕ)

-- both are strictly sorted; number 0 is no marks
pub record AreTables (t : Tables) : Type 0 where
  pub cubes : IsRising cube_cmp t.cubes
  pub marks : IsRising (slice_cmp nat_cmp) t.marks
  pub none : slice_get t.marks 0 ≡ Some []

-- the numbers of a cube and of marks, as an edge
abbrev pub coded_edge : ℕ → ℕ → ℕ → Edge
coded_edge cube target marks = record { cube = record { proposition = cube; positive = true } ∷ []; target = target; marks = marks ∷ [] }

abbrev pub number_of_cube : Cube → ℕ
number_of_cube [] = 0
number_of_cube (l ∷ ls) = l.proposition

abbrev pub cube_in : Tables → Cube → Cube
cube_in t c = slice_index_or t.cubes (number_of_cube c) []

abbrev pub marks_in : Tables → List ℕ → List ℕ
marks_in t m = slice_index_or t.marks (slice_index_or m 0 0) []

-- the edge, the state and the automaton with the labels that stand in the tables
abbrev pub labelled_edge : Tables → Edge → Edge
labelled_edge t e = record { cube = cube_in t e.cube; target = e.target; marks = marks_in t e.marks }

abbrev pub labelled_state : Tables → State → State
labelled_state t s = record { accepting = s.accepting; edges = map (labelled_edge t) s.edges }

abbrev pub labelled : Tables → Automaton → Automaton
labelled t A = record { sets = A.sets; states = map (labelled_state t) A.states }

-- the edge has numbers of these tables
pub record IsCoded (t : Tables) (e : Edge) : Type 0 where
  pub cube : ℕ
  pub marks : ℕ
  pub is : e ≡ coded_edge cube e.target marks
  pub cube_within : cube < length t.cubes
  pub marks_within : marks < length t.marks

-- all edges have
abbrev pub AreCoded : Tables → Automaton → Type 0
AreCoded t A = All (λ s. All (IsCoded t) s.edges) A.states
