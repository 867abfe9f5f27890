-- The text of a drawing in Graphviz' DOT language.
use Rattle.std.specs.Prelude.{ℕ, zero, suc, Bool, true, false, not, ◌&&◌, nat_lt, if◌then◌else◌, List, [], ◌∷◌, ◌++◌, length, map, flat_map, slice_index_or, codes, decimal, Option, Some, None}
use Rattle.std.specs.List.{list_any, range_with_len}
use Rattle.ltl_spec.specs.Collections.Lists.{joined_by}
use Rattle.ltl_spec.specs.Semantics.Word.{Name}
use Rattle.ltl_spec.specs.Transitions.Cubes.{Literal, Cube}
use Rattle.ltl_spec.specs.Automata.Automaton.{Edge}
use Rattle.ltl_spec.specs.Automata.GeneralizedText.{marks_text}
use Rattle.ltl_text.specs.Options.{edge_at}
use Rattle.ltl_pictures.specs.NamedAutomaton.{NamedAutomaton, state_name}
use Rattle.ltl_pictures.specs.NameText.{name_text}
use Rattle.ltl_pictures.specs.Picture.{Arrow, arrows, edges_at, is_accepting, is_state_based}

-- ---- the label of an arrow. It is in quotes; that of an arrow in red is HTML, since some of its edges may be in red and others not

-- the name of a proposition needs no escape: it has letters, digits and `_`
abbrev pub literal_text : List Name → Literal → List ℕ
literal_text names l = let name = slice_index_or names l.proposition [] in if l.positive then name else codes "!" ++ name

-- `&&`, also as HTML
abbrev pub and_text : Bool → List ℕ
and_text red = if red then codes " &amp;&amp; " else codes " && "

-- the literals of an edge, `1` if it has none
abbrev pub formula_text : List Name → Bool → Cube → List ℕ
formula_text names red [] = codes "1"
formula_text names red (l ∷ ls) = joined_by (and_text red) (map (literal_text names) (l ∷ ls))

-- an edge: its literals, and its sets if they are shown
abbrev pub edge_text : List Name → Bool → Bool → Edge → List ℕ
edge_text names shown red e = formula_text names red e.cube ++ (if shown then marks_text e.marks else [])

-- an edge in red if it is taken
abbrev pub part_text : Bool → List ℕ → List ℕ
part_text taken text = if taken then codes "<font color=\"red\">" ++ text ++ codes "</font>" else text

-- `||`, and a line end if the label is broken into lines
abbrev pub or_text : Bool → Bool → List ℕ
or_text broken red = if broken then (if red then codes " ||<br/>" else codes " ||\\n") else codes " || "

-- a label has a line for each edge if one of them has more than one literal
abbrev pub is_broken : List Edge → List ℕ → Bool
is_broken es places = list_any (λ p. nat_lt 1 (length (edge_at es p).cube)) places

-- what stands before a label and behind it
abbrev pub label_start : Bool → List ℕ
label_start red = if red then codes " [label=<" else codes " [label=\""

abbrev pub label_end : Bool → List ℕ
label_end red = if red then codes ">, color=red, penwidth=2]\n" else codes "\"]\n"

-- an arrow, with these edges of its source; it is in red if one of its edges is taken
abbrev pub arrow_text : List Name → Bool → (ℕ → Bool) → List Edge → Arrow → List ℕ
arrow_text names shown taken es a =
    let red = list_any taken a.places in
    codes "  " ++ decimal a.from ++ codes " -> " ++ decimal a.to ++ label_start red
    ++ joined_by (or_text (is_broken es a.places) red) (map (λ p. part_text (taken p) (edge_text names shown red (edge_at es p))) a.places) ++ label_end red

-- ---- states

-- the end of a state's statement: a double circle if it is accepting, and the colour
abbrev pub node_end : Bool → Bool → List ℕ
node_end false false = codes "\n"
node_end true false = codes " [peripheries=2]\n"
node_end false true = codes " [color=red, penwidth=2]\n"
node_end true true = codes " [peripheries=2, color=red, penwidth=2]\n"

-- that of a state with a name
abbrev pub labelled_end : Bool → Bool → List ℕ
labelled_end false false = codes "]\n"
labelled_end true false = codes ", peripheries=2]\n"
labelled_end false true = codes ", color=red, penwidth=2]\n"
labelled_end true true = codes ", peripheries=2, color=red, penwidth=2]\n"

-- the label of a state with a name, and its shape
abbrev pub label_text : List ℕ → ℕ → List ℕ
label_text name k = codes " [label=\"" ++ decimal k ++ codes "\\n" ++ name_text name ++ codes "\", shape=ellipse"

abbrev pub node_text : Option (List ℕ) → Bool → Bool → ℕ → List ℕ
node_text None accepting red k = codes "  " ++ decimal k ++ node_end accepting red
node_text (Some name) accepting red k = codes "  " ++ decimal k ++ label_text name k ++ labelled_end accepting red

-- a state, in red if one of its edges is taken, and the arrows from it
abbrev pub state_text : NamedAutomaton → (ℕ → ℕ → Bool) → ℕ → List ℕ
state_text N taken k =
    let A = N.automaton in
    let es = edges_at A k in
    let by_states = is_state_based A in
    node_text (state_name N.names k) (by_states && is_accepting es) (list_any (taken k) (range_with_len 0 (length es))) k ++ flat_map (arrow_text A.names (not by_states) (taken k) es) (arrows k es)

-- ---- the whole

-- the name of the acceptance condition with this number of sets
abbrev pub acceptance_name : ℕ → List ℕ
acceptance_name zero = codes "all"
acceptance_name (suc zero) = codes "B&uuml;chi"
acceptance_name n = codes "generalized-B&uuml;chi " ++ decimal n

-- the line of the title with the name of the automaton
abbrev pub title_line : Option (List ℕ) → List ℕ
title_line None = []
title_line (Some name) = name_text name ++ codes "\\n"

-- the head: the name, the acceptance condition and a note as title, and an arrow without source to the initial state
abbrev pub head_text : NamedAutomaton → List ℕ → List ℕ
head_text N note =
    codes "digraph automaton {\n  rankdir=LR\n  labelloc=t\n  label=\"" ++ title_line N.names.automaton ++ acceptance_name N.automaton.sets ++ note
    ++ codes "\"\n  node [shape=circle]\n  I [label=\"\", style=invis, width=0]\n  I -> " ++ decimal N.automaton.start ++ codes "\n"

-- the picture with these edges in red, by the numbers of their states and by their indices there
abbrev pub picture_text : NamedAutomaton → (ℕ → ℕ → Bool) → List ℕ → List ℕ
picture_text N taken note = head_text N note ++ flat_map (state_text N taken) (range_with_len 0 N.automaton.states) ++ codes "}\n"

-- the picture without a run
abbrev pub dot_text : NamedAutomaton → List ℕ
dot_text N = picture_text N (λ _ _. false) []
