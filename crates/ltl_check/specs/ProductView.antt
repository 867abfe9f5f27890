-- The product of two automata as an implicit graph.
use Rattle.std.specs.Prelude.{ℕ, ◌+◌, ◌*◌, ◌/◌, ◌%◌, ◌<◌, ◌≤◌, ◌≡◌, Bool, cond, List, [], length, sum_by, All, slice_index_or, Option, option_map}
use Rattle.std.specs.Ordering.{nat_cmp}
use Rattle.ltl_spec.specs.Collections.Sets.{put}
use Rattle.ltl_spec.specs.Transitions.Cubes.{Cube, join_cubes}
use Rattle.ltl_spec.specs.Automata.Automaton.{Automaton, Edge, state_at}
use Rattle.ltl_spec.specs.Hoa.HoaReading.{MarkedAutomaton}
use Rattle.ltl_spec.specs.Checking.Product.{renamed_cube, unified_number}
use Rattle.ltl_spec.specs.Collections.Lists.{place_of}
use Rattle.ltl_spec.specs.Formulas.Tokens.{same_name}
use Rattle.ltl_spec.specs.Semantics.Word.{Name}
use Rattle.ltl_spec.specs.Formulas.Names.{unified}
use Rattle.ltl_spec.specs.Tools.Limits.{stated_limits}
use Rattle.ltl_sets.specs.Words.{letter_of}
use Rattle.ltl_hoa.specs.declared.marked.TheConstants.{MOST_SETS}
use Rattle.ltl_hoa.specs.MarkedView.{IsEdgeWithin}
use Rattle.ltl_check.specs.declared.graph.Step.{Step}
use Rattle.ltl_check.specs.declared.product.ProductState.{ProductState}
use Rattle.ltl_check.specs.Nets.{Net}
use Rattle.ltl_check.specs.Levels.{net_of}

abbrev pub no_edge : Edge
no_edge = record { cube = []; target = 0; marks = [] }

-- the edges of a state of the first automaton, and one of them
abbrev pub edges_from : MarkedAutomaton → ℕ → List Edge
edges_from A s = slice_index_or A.edges s []

abbrev pub edge_from : MarkedAutomaton → ℕ → ℕ → Edge
edge_from A s k = slice_index_or (edges_from A s) k no_edge

-- the number of a proposition, by a list of numbers
abbrev pub number_in : List ℕ → ℕ → ℕ
number_in numbers p = slice_index_or numbers p 0

-- the numbers of the second side's propositions among the names of both
abbrev pub AreUnified : List ℕ → List Name → List Name → Type 0
AreUnified numbers firsts seconds = (p : ℕ) → p < length seconds → number_in numbers p ≡ unified_number firsts seconds p

-- all names of both sides, and no more of them than are allowed
pub record AreAllNames (firsts seconds names : List Name) : Type 0 where
  pub all : names ≡ unified firsts seconds
  pub few : length names ≤ stated_limits.propositions

-- and among any names
abbrev pub ArePlaces : List ℕ → List Name → List Name → Type 0
ArePlaces numbers seconds names = (p : ℕ) → p < length seconds → number_in numbers p ≡ place_of same_name (slice_index_or seconds p []) names

-- the marks of an edge, and the last set where an accepting state is left
abbrev pub pair_marks : ℕ → Bool → List ℕ → List ℕ
pair_marks sets accepting marks = cond accepting (put nat_cmp sets marks) marks

-- the step along two edges whose literals joined are these; its letter has the positive ones
abbrev pub step_with : ℕ → Bool → Edge → Edge → Cube → Step ProductState
step_with sets accepting e f c = record {
  target = record { first = e.target; second = f.target };
  marks = pair_marks sets accepting e.marks;
  letter = letter_of c;
}

-- the step along two edges, unless their literals contradict each other; `number` is that of a proposition of the second one
abbrev pub joined_step : ℕ → Bool → (ℕ → ℕ) → Edge → Edge → Option (Step ProductState)
joined_step sets accepting number e f = option_map (step_with sets accepting e f) (join_cubes e.cube (renamed_cube number f.cube))

-- the numbers of both are below their counts, and there are not too many edges
pub record IsSearchable (A : MarkedAutomaton) (B : Automaton) : Type 0 where
  pub counted : length A.edges ≡ A.states
  pub begins : A.start < A.states
  pub few_firsts : A.states ≤ stated_limits.hoa_states
  pub few_sets : A.sets ≤ MOST_SETS
  pub few_first_edges : sum_by length A.edges ≤ stated_limits.hoa_edges
  pub firsts : All (λ es. All (IsEdgeWithin (length A.names) A.states A.sets) es) A.edges
  pub some : 0 < length B.states
  pub few_seconds : length B.states ≤ stated_limits.states
  pub few_second_edges : sum_by (λ s. length s.edges) B.states ≤ stated_limits.edges
  pub seconds : All (λ s. All (λ e. e.target < length B.states) s.edges) B.states

module _ (A : MarkedAutomaton) (B : Automaton) where
  abbrev pub first_edges : ℕ → List Edge
  first_edges s = slice_index_or A.edges s []

  abbrev pub second_edges : ℕ → List Edge
  second_edges t = (state_at B t).edges

  -- both are states
  abbrev pub IsPair : ProductState → Type 0
  IsPair s = (s.first < A.states) × (s.second < length B.states)

  abbrev pub pair_count : ℕ
  pair_count = A.states * length B.states

  -- the number of a pair, and the pair of a number
  abbrev pub pair_place : ProductState → ℕ
  pair_place s = s.first * length B.states + s.second

  abbrev pub pair_at : ℕ → ProductState
  pair_at n = record { first = n / length B.states; second = n % length B.states }

  -- how many pairs of edges leave a pair of states
  abbrev pub edge_pairs : ProductState → ℕ
  edge_pairs s = length (first_edges s.first) * length (second_edges s.second)

  -- what a look at one of them finds
  abbrev pub pair_step : List ℕ → ProductState → ℕ → Option (Step ProductState)
  pair_step numbers s k =
      joined_step A.sets (state_at B s.second).accepting (number_in numbers)
      (slice_index_or (first_edges s.first) (k / length (second_edges s.second)) no_edge)
      (slice_index_or (second_edges s.second) (k % length (second_edges s.second)) no_edge)

  -- the start: that of the first one, and state 0 of the second
  abbrev pub start_pair : ProductState
  start_pair = record { first = A.start; second = 0 }

  -- the product, by the numbers of its states
  abbrev pub product_net : List ℕ → Net
  product_net numbers = net_of pair_count start_pair pair_place pair_at edge_pairs (pair_step numbers)
