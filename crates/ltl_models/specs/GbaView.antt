-- A generalized automaton of the code as one of the definitions, and the invariant of its type.
use Rattle.std.specs.Prelude.{◌≡◌, ℕ, ◌<◌, ◌≤◌, true, false, length, sum_by, All}
use Rattle.ltl_spec.specs.Transitions.Cubes.{is_contradictory}
use Rattle.ltl_spec.specs.Automata.Automaton.{Automaton, Edge}
use Rattle.ltl_spec.specs.Construction.ImpliedEdges.{IsSetEdge}
use Rattle.ltl_spec.specs.Tools.Limits.{stated_limits}
use Rattle.ltl_automaton.specs.LabelTables.{HasLabels, labelled_of}
use Rattle.ltl_automaton.specs.declared.coded_states.CodedStates as coded
pub use Rattle.ltl_automaton.specs.Codes.{literal_code, edge_code, state_code, automaton_code}
pub use Rattle.ltl_automaton.specs.EdgeView.{edge_of}

-- An edge leads to one of so many states, and its marks are among so many sets. Its literals are a set without contradiction, and its marks
-- are a set too
pub record IsEdgeWithin (states sets : ℕ) (e : Edge) : Type 0 where
  pub target : e.target < states
  pub marks : All (λ k. k < sets) e.marks
  pub rising : IsSetEdge e
  pub consistent : is_contradictory e.cube ≡ false

-- there is a state, no limit on states, edges and sets is passed, and the edges stay within the automaton
pub record IsGba (g : Automaton) : Type 0 where
  pub some : 0 < length g.states
  pub few_states : length g.states ≤ stated_limits.states
  pub few_edges : sum_by (λ s. length s.edges) g.states ≤ stated_limits.edges
  pub few_sets : g.sets ≤ stated_limits.elementary_rows
  pub within : All (λ s. All (IsEdgeWithin (length g.states) g.sets) s.edges) g.states

-- and every state is accepting, so only the acceptance sets count
pub record IsAcceptingGba (g : Automaton) : Type 0 where
  pub inside : IsGba g
  pub accepting : All (λ s. s.accepting ≡ true) g.states

-- what the type holds
pub record IsCodedGba {A : Type 0} (c : coded.CodedStates A) : Type 0 where
  pub inside : IsAcceptingGba (labelled_of c)
  pub labels : HasLabels c
