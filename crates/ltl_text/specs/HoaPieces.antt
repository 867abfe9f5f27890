-- The parts of a text in the Hanoi Omega-Automata format.
use Rattle.std.specs.Prelude.{ℕ, Bool, if◌then◌else◌, List, [], ◌∷◌, ◌++◌, length, codes}
use Rattle.std.specs.Fmt.{decimal}
use Rattle.std.specs.List.{flat_map, range_with_len}
use Rattle.ltl_spec.specs.Semantics.Word.{Name}
use Rattle.ltl_spec.specs.Formulas.Formula.{Reading}
use Rattle.ltl_spec.specs.Formulas.Canonical.{canonical_text}
use Rattle.ltl_spec.specs.Automata.Automaton.{Automaton, Edge}
use Rattle.ltl_spec.specs.Automata.ClaimText.{line}
use Rattle.ltl_spec.specs.Automata.HoaText.{quoted, state_lines}
use Rattle.ltl_spec.specs.Automata.GeneralizedText as marked

-- the end of a state's line, which has the set where the state is in one
abbrev pub state_end : Bool → List ℕ
state_end in_set = line (if in_set then codes " {0}" else [])

-- a state, and below it its edges with their sets
abbrev pub state_text : ℕ → Bool → List Edge → List ℕ
state_text k in_set es = codes "State: " ++ (decimal k ++ (state_end in_set ++ flat_map marked.marked_edge_line es))

-- the names in quotes, each behind a blank
abbrev pub quoted_names : List Name → List ℕ
quoted_names names = flat_map (λ n. 32 ∷ quoted n) names

-- from the beginning to the end of the names
abbrev pub head_text : ℕ → Reading → List ℕ
head_text count R = codes "HOA: v1\nname: \"" ++ (canonical_text R ++ (codes "\"\nStates: " ++ (decimal count ++ (codes "\nStart: 0\nAP: " ++ (decimal (length R.names) ++ quoted_names R.names)))))

-- the same for a text without a name
abbrev pub unnamed_head : ℕ → List Name → List ℕ
unnamed_head count names = codes "HOA: v1\nStates: " ++ (decimal count ++ (codes "\nStart: 0\nAP: " ++ (decimal (length names) ++ quoted_names names)))

-- from there to the states, with this acceptance and this word for where the sets stand
abbrev pub lines_text : List ℕ → List ℕ → List ℕ → List ℕ
lines_text name acceptance kind = codes "\nacc-name: " ++ (name ++ (codes "\nAcceptance: " ++ (acceptance ++ (codes "\nproperties: trans-labels explicit-labels " ++ (kind ++ codes "\n--BODY--\n")))))

-- those lines where the edges are in so many sets
abbrev pub condition_text : ℕ → List ℕ
condition_text sets = lines_text (marked.acceptance_name sets) (marked.acceptance_text sets) (codes "trans-acc")

abbrev pub set_text : ℕ → List ℕ
set_text k = codes "Inf(" ++ (decimal k ++ codes ")")

abbrev pub states_text : Automaton → List ℕ
states_text B = flat_map (state_lines B) (range_with_len 0 (length B.states))

abbrev pub marked_states_text : Automaton → List ℕ
marked_states_text A = flat_map (marked.marked_state_lines A) (range_with_len 0 (length A.states))
