-- A printed automaton, and the automaton that its text is read as.
use Rattle.std.specs.Prelude.{◌≡◌, ℕ, ◌<◌, ◌≤◌, Bool, false, if◌then◌else◌, IsTrue, List, [], ◌∷◌, length, map, sum_by, All, Result, MatchResult}
use Rattle.std.specs.List.{list_all}
use Rattle.ltl_spec.specs.Collections.Sets.{IsRising}
use Rattle.ltl_spec.specs.Collections.Lists.{HasNoRepeats}
use Rattle.ltl_spec.specs.Semantics.Word.{Name}
use Rattle.ltl_spec.specs.Formulas.Names.{is_proposition}
use Rattle.ltl_spec.specs.Formulas.Formula.{Reading}
use Rattle.ltl_spec.specs.Transitions.Cubes.{literal_cmp, is_contradictory}
use Rattle.ltl_spec.specs.Automata.Automaton.{Automaton, Edge}
use Rattle.ltl_spec.specs.Tools.Limits.{stated_limits}
use Rattle.ltl_spec.specs.Hoa.HoaReading.{MarkedAutomaton}
use Rattle.ltl_hoa.specs.declared.fault.HoaFault.{HoaFault}
use Rattle.ltl_hoa.specs.Reading.{IsOfText}

-- an edge's literals are a set without contradiction, of propositions that have names, and it leads to a state
pub record IsPrintedEdge (names states : ℕ) (e : Edge) : Type 0 where
  pub rising : IsRising literal_cmp e.cube
  pub consistent : is_contradictory e.cube ≡ false
  pub named : All (λ l. l.proposition < names) e.cube
  pub target : e.target < states

-- an automaton within the limits, with the names of a formula
pub record IsPrinted (B : Automaton) (F : Reading) : Type 0 where
  pub some : 0 < length B.states
  pub few_states : length B.states ≤ stated_limits.hoa_states
  pub few_edges : sum_by (λ s. length s.edges) B.states ≤ stated_limits.hoa_edges
  pub few_names : length F.names ≤ stated_limits.propositions
  pub propositions : IsTrue (list_all is_proposition F.names)
  pub differ : HasNoRepeats F.names
  pub within : All (λ s. All (IsPrintedEdge (length F.names) (length B.states)) s.edges) B.states

-- an edge is in set 0 exactly when it leaves an accepting state
abbrev pub marked_edge : Bool → Edge → Edge
marked_edge accepting e = record { cube = e.cube; target = e.target; marks = if accepting then 0 ∷ [] else [] }

-- the automaton as it is read: the same states, start, names, cubes and targets
abbrev pub marked_of : Automaton → List Name → MarkedAutomaton
marked_of B names = record { states = length B.states; start = 0; sets = 1; names = names; edges = map (λ s. map (marked_edge s.accepting) s.edges) B.states }

-- the answer is the automaton, unless it isn't one about the text
abbrev pub IsAnswered : MarkedAutomaton → Result MarkedAutomaton HoaFault → Type 0
IsAnswered A answer = MatchResult answer (λ M. M ≡ A) (λ fault. ¬ (IsOfText fault))

abbrev pub IsReadBack : Automaton → Reading → Result MarkedAutomaton HoaFault → Type 0
IsReadBack B F answer = IsAnswered (marked_of B F.names) answer
