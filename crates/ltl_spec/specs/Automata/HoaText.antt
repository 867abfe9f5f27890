-- A Büchi automaton in the Hanoi Omega-Automata format, version 1.
use Rattle.std.specs.Prelude.{ℕ, if◌then◌else◌, List, [], ◌∷◌, ◌++◌, map, flat_map, length, codes, decimal}
use Rattle.std.specs.List.{range_with_len}
use Rattle.ltl_spec.specs.Collections.Lists.{joined_by}
use Rattle.ltl_spec.specs.Semantics.Word.{Name}
use Rattle.ltl_spec.specs.Formulas.Formula.{Reading}
use Rattle.ltl_spec.specs.Formulas.Canonical.{canonical_text}
use Rattle.ltl_spec.specs.Transitions.Cubes.{Literal, Cube}
use Rattle.ltl_spec.specs.Automata.Automaton.{Automaton, Edge, state_at}
use Rattle.ltl_spec.specs.Automata.ClaimText.{line}

abbrev pub quoted : List ℕ → List ℕ
quoted text = 34 ∷ text ++ 34 ∷ []

abbrev pub label_literal : Literal → List ℕ
label_literal l = if l.positive then decimal l.proposition else codes "!" ++ decimal l.proposition

-- a label by the numbers of its propositions, or `t` where it has no literal
abbrev pub label_text : Cube → List ℕ
label_text [] = codes "t"
label_text (l ∷ ls) = joined_by (codes "&") (map label_literal (l ∷ ls))

abbrev pub edge_line : Edge → List ℕ
edge_line e = line (codes "[" ++ label_text e.cube ++ codes "] " ++ decimal e.target)

-- a state, with its set where it is accepting, and below it its edges
abbrev pub state_lines : Automaton → ℕ → List ℕ
state_lines B k =
    let s = state_at B k in
    line (codes "State: " ++ decimal k ++ (if s.accepting then codes " {0}" else [])) ++ flat_map edge_line s.edges

-- all names of the formula as it was read
abbrev pub names_line : List Name → List ℕ
names_line names = line (codes "AP: " ++ decimal (length names) ++ flat_map (λ n. 32 ∷ quoted n) names)

-- a text with so many states, with the propositions of the formula as it was read: the name of the acceptance condition, the condition itself,
-- the word for where its sets stand, and the lines of a state are given
abbrev pub text_with : Reading → ℕ → List ℕ → List ℕ → List ℕ → (ℕ → List ℕ) → List ℕ
text_with R states name condition kind lines =
    line (codes "HOA: v1")
    ++ line (codes "name: " ++ quoted (canonical_text R))
    ++ line (codes "States: " ++ decimal states)
    ++ line (codes "Start: 0")
    ++ names_line R.names
    ++ line (codes "acc-name: " ++ name)
    ++ line (codes "Acceptance: " ++ condition)
    ++ line (codes "properties: trans-labels explicit-labels " ++ kind)
    ++ line (codes "--BODY--")
    ++ flat_map lines (range_with_len 0 states)
    ++ line (codes "--END--")

-- the text of the automaton, with its set on states
abbrev pub hoa_text : Automaton → Reading → List ℕ
hoa_text B R = text_with R (length B.states) (codes "Buchi") (codes "1 Inf(0)") (codes "state-acc") (state_lines B)
