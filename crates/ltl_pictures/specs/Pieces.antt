-- Parts of the text of a drawing.
use Rattle.std.specs.Prelude.{ℕ, Bool, List, ◌++◌, map, codes, decimal}
use Rattle.ltl_spec.specs.Collections.Lists.{joined_by}
use Rattle.ltl_spec.specs.Semantics.Word.{Name}
use Rattle.ltl_spec.specs.Automata.Automaton.{Edge}
use Rattle.ltl_text.specs.Options.{edge_at}
use Rattle.ltl_pictures.specs.DotText.{edge_text, label_start, part_text}

-- an arrow up to its label
abbrev pub front_text : ℕ → ℕ → Bool → List ℕ
front_text from to red = codes "  " ++ (decimal from ++ (codes " -> " ++ (decimal to ++ label_start red)))

-- the edge with this index, as a part of a label
abbrev pub place_text : List Name → Bool → (ℕ → Bool) → List Edge → Bool → ℕ → List ℕ
place_text names shown taken es red p = part_text (taken p) (edge_text names shown red (edge_at es p))

-- the edges with these indices, with a text between each two
abbrev pub parts_text : List Name → Bool → (ℕ → Bool) → List Edge → Bool → List ℕ → List ℕ → List ℕ
parts_text names shown taken es red between ps = joined_by between (map (place_text names shown taken es red) ps)
