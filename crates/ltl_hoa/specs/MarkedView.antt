-- An automaton that was read as one of the definitions, and the invariant of its type.
use Rattle.std.specs.Prelude.{◌≡◌, ℕ, ◌<◌, ◌≤◌, Bool, IsTrue, List, length, sum_by, All, refl}
use Rattle.std.specs.List.{list_all}
use Rattle.std.specs.Coded.{Coded, code_by, coded×, coded_ℕ, coded_bool, coded_list}
use Rattle.ltl_spec.specs.Collections.Lists.{HasNoRepeats}
use Rattle.ltl_spec.specs.Semantics.Word.{Name}
use Rattle.ltl_spec.specs.Transitions.Cubes.{Literal, Cube}
use Rattle.ltl_spec.specs.Automata.Automaton.{Edge}
use Rattle.ltl_spec.specs.Formulas.Names.{is_proposition}
use Rattle.ltl_spec.specs.Tools.Limits.{stated_limits}
use Rattle.ltl_spec.specs.Hoa.HoaReading.{MarkedAutomaton}
use Rattle.ltl_hoa.specs.declared.marked.MarkedEdge as made
use Rattle.ltl_hoa.specs.declared.marked.TheConstants.{MOST_SETS}

abbrev pub literal_code : Coded Literal
literal_code = code_by (ℕ × Bool) (coded× coded_ℕ coded_bool) (λ l. (l.proposition, l.positive)) (λ p. record { proposition = p.0; positive = p.1 }) (λ _. refl)

abbrev pub edge_code : Coded Edge
edge_code = code_by (List Literal × (ℕ × List ℕ)) (coded× (coded_list literal_code) (coded× coded_ℕ (coded_list coded_ℕ))) (λ e. (e.cube, (e.target, e.marks))) (λ p. record { cube = p.0; target = p.1.0; marks = p.1.1 }) (λ _. refl)

abbrev pub marked_code : Coded MarkedAutomaton
marked_code =
    code_by (ℕ × (ℕ × (ℕ × (List Name × List (List Edge))))) (coded× coded_ℕ (coded× coded_ℕ (coded× coded_ℕ (coded× (coded_list (coded_list coded_ℕ)) (coded_list (coded_list edge_code))))))
    (λ a. (a.states, (a.start, (a.sets, (a.names, a.edges))))) (λ p. record { states = p.0; start = p.1.0; sets = p.1.1.0; names = p.1.1.1.0; edges = p.1.1.1.1 }) (λ _. refl)

-- the edges of the code as those of the definitions
abbrev pub edge_of : made.MarkedEdge → Edge
edge_of e = record { cube = e.cube; target = e.target; marks = e.sets }

-- a cube has only the first so many propositions
abbrev pub HasPropositionsBelow : ℕ → Cube → Type 0
HasPropositionsBelow n c = All (λ l. l.proposition < n) c

-- an edge has propositions that are named, leads to a state, and is in sets that there are
pub record IsEdgeWithin (names states sets : ℕ) (e : Edge) : Type 0 where
  pub cube : HasPropositionsBelow names e.cube
  pub target : e.target < states
  pub marks : All (λ k. k < sets) e.marks

-- There is a state, and the counts are within the limits. Edges stay within the automaton, and the names are different propositions
pub record IsMarked (A : MarkedAutomaton) : Type 0 where
  pub counted : length A.edges ≡ A.states
  pub few_states : A.states ≤ stated_limits.hoa_states
  pub begins : A.start < A.states
  pub few_names : length A.names ≤ stated_limits.propositions
  pub few_sets : A.sets ≤ MOST_SETS
  pub propositions : IsTrue (list_all is_proposition A.names)
  pub differ : HasNoRepeats A.names
  pub within : All (λ es. All (IsEdgeWithin (length A.names) A.states A.sets) es) A.edges
  pub few_edges : sum_by length A.edges ≤ stated_limits.hoa_edges
