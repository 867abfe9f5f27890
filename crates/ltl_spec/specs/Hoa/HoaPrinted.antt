-- An automaton with sets on its edges that is printed, and what its text reads as.
use Rattle.std.specs.Prelude.{◌≡◌, ℕ, ◌<◌, ◌≤◌, false, IsTrue, List, length, map, sum_by, All}
use Rattle.std.specs.List.{list_all}
use Rattle.std.specs.Ordering.{nat_cmp}
use Rattle.ltl_spec.specs.Collections.Sets.{IsRising}
use Rattle.ltl_spec.specs.Collections.Lists.{HasNoRepeats}
use Rattle.ltl_spec.specs.Semantics.Word.{Name}
use Rattle.ltl_spec.specs.Formulas.Formula.{Reading}
use Rattle.ltl_spec.specs.Formulas.Names.{is_proposition}
use Rattle.ltl_spec.specs.Transitions.Cubes.{literal_cmp, is_contradictory}
use Rattle.ltl_spec.specs.Automata.Automaton.{Automaton, Edge}
use Rattle.ltl_spec.specs.Tools.Limits.{Limits}
use Rattle.ltl_spec.specs.Hoa.HoaReading.{MarkedAutomaton}

-- An edge's literals are a set without contradiction, of propositions that have names; it leads to a state, and its marks are a set of
-- acceptance sets
pub record IsPrintedEdge (names states sets : ℕ) (e : Edge) : Type 0 where
  pub rising : IsRising literal_cmp e.cube
  pub consistent : is_contradictory e.cube ≡ false
  pub named : All (λ l. l.proposition < names) e.cube
  pub target : e.target < states
  pub marks : IsRising nat_cmp e.marks
  pub inside : All (λ k. k < sets) e.marks

-- an automaton within the limits, with at most so many acceptance sets, and the names of a formula
pub record IsPrinted (l : Limits) (most : ℕ) (A : Automaton) (R : Reading) : Type 0 where
  pub some : 0 < length A.states
  pub few_states : length A.states ≤ l.hoa_states
  pub few_edges : sum_by (λ s. length s.edges) A.states ≤ l.hoa_edges
  pub few_sets : A.sets ≤ most
  pub few_names : length R.names ≤ l.propositions
  pub propositions : IsTrue (list_all is_proposition R.names)
  pub differ : HasNoRepeats R.names
  pub within : All (λ s. All (IsPrintedEdge (length R.names) (length A.states) A.sets) s.edges) A.states

-- the automaton as it is read: the same states, start, names, cubes, targets and sets
abbrev pub marked_of : Automaton → List Name → MarkedAutomaton
marked_of A names = record { states = length A.states; start = 0; sets = A.sets; names = names; edges = map (λ s. s.edges) A.states }
