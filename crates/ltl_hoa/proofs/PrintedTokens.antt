-- The tokens of a text that was printed.
use Rattle.std.proofs.Common.{ℕ, ◌^◌, ◌<◌, Bool, true, false, List, [], ◌∷◌, ◌++◌, map, Option, Some, None, codes, refl, sym, ◌∙◌, ap, append_assoc}
use Rattle.std.proofs.lemmas.List.{append-nil}
use Rattle.std.specs.Prelude.{if◌then◌else◌, flat_map, decimal}
use Rattle.ltl_spec.specs.Collections.Sets.{Has}
use Rattle.ltl_spec.specs.Transitions.Cubes.{Literal}
use Rattle.ltl_spec.specs.Automata.Automaton.{Automaton, Edge, State, state_at}
use Rattle.ltl_spec.specs.Automata.ClaimText.{line}
use Rattle.ltl_spec.specs.Automata.HoaText.{label_text, edge_line, state_lines}
use Rattle.ltl_spec.specs.Hoa.HoaToken.{Identifier, Header, Int, OpenSets, CloseSets, OpenBracket, CloseBracket, hoa_tokens}
use Rattle.ltl_spec.specs.Hoa.HoaReading.{WrittenEdge, sets_tokens, edge_tokens, state_tokens}
use Rattle.ltl_spec.proofs.Hoa.SpelledLaws.{any_line, Spells, spells_both, spells_all, number_spelled}
use Rattle.ltl_spec.proofs.Hoa.SpelledStates as marked
use Rattle.ltl_spec.proofs.Hoa.SpelledStates.{cube_label}

-- ---- the lines without numbers

pub acceptance_name_line : Spells (line (codes "acc-name: Buchi")) (Header (codes "acc-name") ∷ Identifier (codes "Buchi") ∷ [])
acceptance_name_line rest = ap (λ ts. Header (codes "acc-name") ∷ Identifier (codes "Buchi") ∷ ts) (any_line 2 rest)

pub acceptance_line : Spells (line (codes "Acceptance: 1 Inf(0)")) (Header (codes "Acceptance") ∷ Int 1 ∷ Identifier (codes "Inf") ∷ OpenBracket ∷ Int 0 ∷ CloseBracket ∷ [])
acceptance_line rest = ap (λ ts. Header (codes "Acceptance") ∷ Int 1 ∷ Identifier (codes "Inf") ∷ OpenBracket ∷ Int 0 ∷ CloseBracket ∷ ts) (any_line 2 rest)

pub properties_line : Spells (line (codes "properties: trans-labels explicit-labels state-acc"))
    (Header (codes "properties") ∷ Identifier (codes "trans-labels") ∷ Identifier (codes "explicit-labels") ∷ Identifier (codes "state-acc") ∷ [])
properties_line rest = ap (λ ts. Header (codes "properties") ∷ Identifier (codes "trans-labels") ∷ Identifier (codes "explicit-labels") ∷ Identifier (codes "state-acc") ∷ ts) (any_line 2 rest)

-- ---- edges and states

abbrev pub without_marks : Edge → Edge
without_marks e = record { cube = e.cube; target = e.target; marks = [] }

abbrev pub at_state : State → Option (List ℕ)
at_state s = if s.accepting then Some (0 ∷ []) else None

abbrev pub written_edge : Edge → WrittenEdge
written_edge e = record { label = cube_label e.cube; target = e.target; sets = None }

abbrev pub SmallEdge : Edge → Type 0
SmallEdge e = ((l : Literal) → Has e.cube l → l.proposition < 2 ^ 64) × (e.target < 2 ^ 64)

-- the line of an edge is that of one in no set
edge_spelled : (e : Edge) → SmallEdge e → Spells (edge_line e) (edge_tokens (written_edge e))
edge_spelled e (n, t) rest =
    ap (λ text. hoa_tokens (line text ++ rest)) (sym (append-nil (codes "[" ++ label_text e.cube ++ codes "] " ++ decimal e.target)))
    ∙ marked.edge_spelled (without_marks e) (record { cube = n; target = t; marks = λ k h. absurd h }) rest

state_line : (k : ℕ) (accepting : Bool) → k < 2 ^ 64
    → Spells (line (codes "State: " ++ decimal k ++ (if accepting then codes " {0}" else []))) (Header (codes "State") ∷ Int k ∷ sets_tokens (if accepting then Some (0 ∷ []) else None))
state_line k true n rest =
    ap (λ ts. Header (codes "State") ∷ ts) (
    ap hoa_tokens (append_assoc (decimal k ++ codes " {0}") (10 ∷ []) rest ∙ append_assoc (decimal k) (codes " {0}") (10 ∷ rest))
    ∙ number_spelled k (codes " {0}" ++ 10 ∷ rest) n refl ∙ ap (λ ts. Int k ∷ OpenSets ∷ Int 0 ∷ CloseSets ∷ ts) (any_line 2 rest))
state_line k false n rest =
    ap (λ ts. Header (codes "State") ∷ ts) (
    ap hoa_tokens (append_assoc (decimal k ++ []) (10 ∷ []) rest ∙ append_assoc (decimal k) [] (10 ∷ rest))
    ∙ number_spelled k (10 ∷ rest) n refl ∙ ap (λ ts. Int k ∷ ts) (any_line 2 rest))

pub state_spelled : (B : Automaton) (k : ℕ) → k < 2 ^ 64 → ((e : Edge) → Has (state_at B k).edges e → SmallEdge e)
    → Spells (state_lines B k) (state_tokens (record { number = k; name = None; sets = at_state (state_at B k); edges = map written_edge (state_at B k).edges }))
state_spelled B k n small =
    let s = state_at B k in
    spells_both (line (codes "State: " ++ decimal k ++ (if s.accepting then codes " {0}" else []))) (flat_map edge_line s.edges)
    (Header (codes "State") ∷ Int k ∷ sets_tokens (at_state s)) (flat_map edge_tokens (map written_edge s.edges))
    (state_line k s.accepting n) (spells_all edge_line written_edge edge_tokens s.edges (λ e h. edge_spelled e (small e h)))
