-- Acceptance of states in place of acceptance sets of edges.
use Rattle.std.specs.Prelude.{◌≡◌, ℕ, ◌<◌, ◌≤◌, ◌↔◌, Bool, true, List, [], ◌∷◌, length, map, slice_index_or}
use Rattle.ltl_spec.specs.Collections.Sets.{Has}
use Rattle.ltl_spec.specs.Automata.Automaton.{Automaton, Edge, state_at}

-- the edge without its marks
abbrev pub bare_edge : Edge → Edge
bare_edge e = record { cube = e.cube; target = e.target; marks = [] }

-- the edge is in each of so many sets
abbrev pub IsInAll : ℕ → Edge → Type 0
IsInAll sets e = (k : ℕ) → k < sets → Has e.marks k

-- an edge of a state leads to no higher level; within the level it is in all sets if and only if the state accepts
pub record Agrees (sets : ℕ) (level : ℕ → ℕ) (s : ℕ) (accepting : Bool) (e : Edge) : Type 0 where
  pub falls : level e.target ≤ level s
  pub same : level e.target ≡ level s → IsInAll sets e ↔ (accepting ≡ true)

-- so do all edges of a state
abbrev pub EdgesAgree : Automaton → (ℕ → ℕ) → ℕ → Bool → Type 0
EdgesAgree G level s accepting = (e : Edge) → Has (state_at G s).edges e → Agrees G.sets level s accepting e

-- B has the states and the edges of G, but no sets. A state accepts if its edges within a level are in all sets of G, of which there is at most one
pub record IsBasedBy (G : Automaton) (level : ℕ → ℕ) (B : Automaton) : Type 0 where
  pub few : G.sets ≤ 1
  pub none : B.sets ≡ 0
  pub long : length B.states ≡ length G.states
  pub edges : (s : ℕ) → (state_at B s).edges ≡ map bare_edge (state_at G s).edges
  pub agree : (s : ℕ) → EdgesAgree G level s (state_at B s).accepting

-- the same for some levels
abbrev pub IsStateBased : Automaton → Automaton → Type 0
IsStateBased G B = (level : ℕ → ℕ) × IsBasedBy G level B

-- the levels in a list, and one above all where it ends
abbrev pub level_in : List ℕ → ℕ → ℕ
level_in levels s = slice_index_or levels s 18446744073709551615

-- an edge with numbers for its labels, of which 0 is no marks
abbrev pub bare_coded : Edge → Edge
bare_coded e = record { cube = e.cube; target = e.target; marks = 0 ∷ [] }
