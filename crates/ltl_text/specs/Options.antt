-- The options of a state in a never claim, made from the positions of its edges.
use Rattle.std.specs.Prelude.{ℕ, Bool, true, false, List, [], ◌∷◌, ◌++◌, map, codes, slice_index_or}
use Rattle.std.specs.List.{flat_map}
use Rattle.std.specs.Ordering.{nat_cmp}
use Rattle.ltl_spec.specs.Collections.Sets.{set_of}
use Rattle.ltl_spec.specs.Collections.Lists.{joined_by}
use Rattle.ltl_spec.specs.Semantics.Word.{Name}
use Rattle.ltl_spec.specs.Transitions.Cubes.{Cube}
use Rattle.ltl_spec.specs.Automata.Automaton.{Automaton, State, Edge}
use Rattle.ltl_spec.specs.Automata.ClaimText.{cube_text, indented, label_of, option_line}

-- whether there is no literal
abbrev pub is_empty : Cube → Bool
is_empty [] = true
is_empty (l ∷ ls) = false

-- the edge at a place
abbrev pub edge_at : List Edge → ℕ → Edge
edge_at es p = slice_index_or es p (record { cube = []; target = 0; marks = [] })

-- the guards of the edges at these places
abbrev pub guards_text : List Name → List Edge → List ℕ → List ℕ
guards_text names es ps = joined_by (codes " || ") (map (λ p. cube_text names (edge_at es p).cube) ps)

-- the option with these guards
abbrev pub option_text : Automaton → List Name → List Edge → ℕ → List ℕ → List ℕ
option_text B names es t ps = indented (codes ":: " ++ guards_text names es ps ++ codes " -> goto " ++ label_of B t)

-- the options of a state
abbrev pub options_text : Automaton → List Name → State → List ℕ
options_text B names s = flat_map (option_line B names s) (set_of nat_cmp (map (λ e. e.target) s.edges))
