-- A Büchi automaton of the code as one of the definitions, and the invariant of its type.
use Rattle.std.specs.Prelude.{◌≡◌, ℕ, ◌<◌, ◌≤◌, false, List, [], length, sum_by, slice_get, slice_index_or, Some, All}
use Rattle.std.specs.declared.cmp.Ordering.{Ordering}
use Rattle.std.specs.Ordering.{nat_cmp, on, then_cmp}
use Rattle.ltl_spec.specs.Collections.Sets.{Has, IsRising}
use Rattle.ltl_spec.specs.Transitions.Cubes.{is_contradictory}
use Rattle.ltl_spec.specs.Automata.Automaton.{Automaton, Edge, edge_cmp, state_at}
use Rattle.ltl_spec.specs.Construction.ImpliedEdges.{IsSetEdge}
use Rattle.ltl_spec.specs.Tools.Limits.{stated_limits}
use Rattle.ltl_automaton.specs.LabelTables.{HasLabels, labelled_of}
use Rattle.ltl_automaton.specs.declared.coded_states.CodedStates as coded

-- the target of the edge at a place
abbrev pub target_at : List Edge → ℕ → ℕ
target_at edges k = (slice_index_or edges k (record { cube = []; target = 0; marks = [] })).target

-- by the target of the edge there, then by the place
abbrev pub place_cmp : List Edge → ℕ → ℕ → Ordering
place_cmp edges = then_cmp (on (target_at edges) nat_cmp) nat_cmp

-- the places of all edges, by target and then by place
pub record IsTargetOrder (edges : List Edge) (places : List ℕ) : Type 0 where
  pub within : All (λ k. k < length edges) places
  pub rising : IsRising (place_cmp edges) places
  pub whole : (k : ℕ) → k < length edges → Has places k

-- a state is the start, or an edge leads to it from one that is reached
pub data IsReached (B : Automaton) : ℕ → Type 0 where
  start : IsReached B 0
  along : (s : ℕ) (e : Edge) → IsReached B s → Has (state_at B s).edges e → IsReached B e.target

-- no edge has a mark
abbrev pub IsPlain : Automaton → Type 0
IsPlain B = All (λ s. All (λ e. e.marks ≡ []) s.edges) B.states

-- There is no acceptance set, and no edge has a mark. There is a state, no limit on states and edges is passed, and the edges stay within the
-- automaton; the literals of an edge are a set without contradiction, the edges of a state rise, and each state is reached
pub record IsBa (B : Automaton) : Type 0 where
  pub no_sets : B.sets ≡ 0
  pub some : 0 < length B.states
  pub few_states : length B.states ≤ stated_limits.states
  pub few_edges : sum_by (λ s. length s.edges) B.states ≤ stated_limits.edges
  pub within : All (λ s. All (λ e. e.target < length B.states) s.edges) B.states
  pub plain : IsPlain B
  pub sets : All (λ s. All IsSetEdge s.edges) B.states
  pub consistent : All (λ s. All (λ e. is_contradictory e.cube ≡ false) s.edges) B.states
  pub rising : All (λ s. IsRising edge_cmp s.edges) B.states
  pub reached : (s : ℕ) → s < length B.states → IsReached B s

-- for each list of edges its places by target are there
pub record HaveOrders (lists : List (List Edge)) (places : List (List ℕ)) : Type 0 where
  pub long : length places ≡ length lists
  pub orders : (k : ℕ) (edges : List Edge) → slice_get lists k ≡ Some edges → IsTargetOrder edges (slice_index_or places k [])

-- what the type holds
pub record IsOrderedBa {A : Type 0} (c : coded.CodedStates A) (places : List (List ℕ)) : Type 0 where
  pub inside : IsBa (labelled_of c)
  pub labels : HasLabels c
  pub ordered : HaveOrders c.states.lists places
