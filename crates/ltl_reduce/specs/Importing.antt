-- An automaton that was read as a generalized automaton whose state 0 is the start.
use Rattle.std.specs.Prelude.{◌≡◌, ℕ, ◌==◌, true, false, if◌then◌else◌, List, [], map, slice_index_or}
use Rattle.std.specs.List.{range_with_len}
use Rattle.ltl_spec.specs.Transitions.Cubes.{is_contradictory}
use Rattle.ltl_spec.specs.Automata.Automaton.{Automaton, Edge, State}
use Rattle.ltl_spec.specs.Construction.ImpliedEdges.{IsSetEdge}
use Rattle.ltl_spec.specs.Construction.Merging.{retargeted_edge}
use Rattle.ltl_spec.specs.Hoa.HoaReading.{MarkedAutomaton}
use Rattle.ltl_hoa.specs.MarkedView.{edge_of}
use Rattle.ltl_reduce.specs.declared.importing.ReadEdge.{ReadEdge}

-- the number of a state, where the start and state 0 have exchanged their numbers
abbrev pub exchanged : ℕ → ℕ → ℕ
exchanged start k = if k == 0 then start else if k == start then 0 else k

-- the edges of a state
abbrev pub edges_from : MarkedAutomaton → ℕ → List Edge
edges_from A s = slice_index_or A.edges s []

-- the state with this new number, whose edges lead to new numbers
abbrev pub started_state : MarkedAutomaton → ℕ → State
started_state A k = record { accepting = true; edges = map (retargeted_edge (exchanged A.start)) (edges_from A (exchanged A.start k)) }

-- the first so many states
abbrev pub started_to : MarkedAutomaton → ℕ → Automaton
started_to A n = record { sets = A.sets; states = map (started_state A) (range_with_len 0 n) }

-- the automaton, whose state 0 is the start
abbrev pub started : MarkedAutomaton → Automaton
started A = started_to A A.states

-- ---- edges on the way there

abbrev pub step_edge : ReadEdge → Edge
step_edge r = edge_of r.edge

-- the new numbers of the targets
abbrev pub numbers_of : ℕ → List Edge → List ℕ
numbers_of start es = map (λ e. exchanged start e.target) es

-- the literals are a set without contradiction, and so are the marks
pub record IsFineEdge (e : Edge) : Type 0 where
  pub sets : IsSetEdge e
  pub consistent : is_contradictory e.cube ≡ false
