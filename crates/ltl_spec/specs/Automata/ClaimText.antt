-- A Büchi automaton as a never claim.
use Rattle.std.specs.Prelude.{ℕ, Bool, not, ◌&&◌, ◌==◌, if◌then◌else◌, List, [], ◌∷◌, ◌++◌, map, filter, flat_map, length, slice_index_or, codes, decimal}
use Rattle.std.specs.List.{position_or_len, range_with_len}
use Rattle.std.specs.Cmp.Lexicographic.{pointwise}
use Rattle.std.specs.Ordering.{nat_cmp}
use Rattle.ltl_spec.specs.Collections.Sets.{set_of}
use Rattle.ltl_spec.specs.Collections.Lists.{joined_by}
use Rattle.ltl_spec.specs.Semantics.Word.{Name}
use Rattle.ltl_spec.specs.Formulas.Formula.{Reading}
use Rattle.ltl_spec.specs.Formulas.Canonical.{canonical_text}
use Rattle.ltl_spec.specs.Transitions.Cubes.{Literal, Cube}
use Rattle.ltl_spec.specs.Automata.Automaton.{Automaton, State, Edge, state_at}
use Rattle.ltl_spec.specs.Construction.Merging.{same_edge}

-- the text and the end of the line
abbrev pub line : List ℕ → List ℕ
line text = text ++ 10 ∷ []

-- the same behind a tab
abbrev pub indented : List ℕ → List ℕ
indented text = line (9 ∷ text)

-- a literal by its name
abbrev pub literal_text : List Name → Literal → List ℕ
literal_text names l = let name = slice_index_or names l.proposition [] in if l.positive then name else codes "!" ++ name

-- a label: its literals in brackets, or `(1)` where there are none
abbrev pub cube_text : List Name → Cube → List ℕ
cube_text names [] = codes "(1)"
cube_text names (l ∷ ls) = codes "(" ++ joined_by (codes " && ") (map (literal_text names) (l ∷ ls)) ++ codes ")"

module _ (B : Automaton) where
  -- an accepting state other than the start, whose one edge has no literal and leads to itself
  abbrev pub is_skip_state : ℕ → Bool
  is_skip_state k = let s = state_at B k in not (k == 0) && s.accepting && pointwise same_edge s.edges (record { cube = []; target = k; marks = [] } ∷ [])

  -- the numbers of all states
  abbrev pub numbers : List ℕ
  numbers = range_with_len 0 (length B.states)

  -- the least such state, or the number of states where there is none
  abbrev pub skip_state : ℕ
  skip_state = position_or_len is_skip_state numbers

  -- the label of a state: the start, the skipping state, and any other one by its number
  abbrev pub label_of : ℕ → List ℕ
  label_of k =
      let accepting = (state_at B k).accepting in
      if k == 0 then (if accepting then codes "accept_init" else codes "T0_init") else
      if k == skip_state then codes "accept_all" else
      (if accepting then codes "accept_S" else codes "T0_S") ++ decimal k

  -- the option that leads to a target: the labels of all edges to it
  abbrev pub option_line : List Name → State → ℕ → List ℕ
  option_line names s t =
      let guards = map (λ e. cube_text names e.cube) (filter (λ e. e.target == t) s.edges) in
      indented (codes ":: " ++ joined_by (codes " || ") guards ++ codes " -> goto " ++ label_of t)

  -- what is written for a state with these edges
  abbrev pub options : List Name → State → List Edge → List ℕ
  options names s [] = indented (codes "false;")
  options names s (e ∷ es) = indented (codes "if") ++ flat_map (option_line names s) (set_of nat_cmp (map (λ e. e.target) s.edges)) ++ indented (codes "fi;")

  abbrev pub body : List Name → ℕ → List ℕ
  body names k = if k == skip_state then indented (codes "skip") else options names (state_at B k) (state_at B k).edges

  -- a state: its label, and below it what it does
  abbrev pub block : List Name → ℕ → List ℕ
  block names k = line (label_of k ++ codes ":") ++ body names k

  -- the blocks in the order of their numbers, but the skipping one last
  abbrev pub never_text : Reading → List ℕ
  never_text R =
      line (codes "never { /* " ++ canonical_text R ++ codes " */")
      ++ flat_map (block R.names) (filter (λ k. not (k == skip_state)) numbers)
      ++ flat_map (block R.names) (filter (λ k. k == skip_state) numbers)
      ++ line (codes "}")
