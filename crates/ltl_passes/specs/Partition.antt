-- Classes of states: states with one signature are one class, which has the name of its least state.
use Rattle.std.specs.Prelude.{◌≡◌, ℕ, ◌<◌, ◌≤◌, Bool, true, if◌then◌else◌, List, [], length, map, slice_index, slice_index_or, slice_get, Some, All, ◌==◌}
use Rattle.std.specs.Ordering.{nat_cmp}
use Rattle.ltl_spec.specs.Collections.Sets.{set_of}
use Rattle.ltl_spec.specs.Collections.Lists.{HasNoRepeats, place_of}
use Rattle.ltl_spec.specs.Automata.Automaton.{Edge, State, edge_cmp}
use Rattle.ltl_spec.specs.Construction.Merging.{retargeted_edge, unimplied_edges}
use Rattle.ltl_automaton.specs.declared.shared.SharedState.{SharedState}

-- each edge leads to a state
abbrev pub IsWithinStates : List State → Type 0
IsWithinStates states = All (λ s. All (λ e. e.target < length states) s.edges) states

-- the edges with other targets, as a set
abbrev pub retargeted_list : (ℕ → ℕ) → List Edge → List Edge
retargeted_list f es = set_of edge_cmp (map (retargeted_edge f) es)

-- the edges without those that others imply, unless these are kept
abbrev pub thinned : Bool → List Edge → List Edge
thinned keep_implied es = if keep_implied then es else unimplied_edges es

-- each edge of the lists leads to one of the first n states
abbrev pub AreListsWithin : List (List Edge) → ℕ → Type 0
AreListsWithin lists n = All (λ es. All (λ e. e.target < n) es) lists

-- the signature of a list if its targets have these names
abbrev pub list_view : List (List Edge) → (ℕ → ℕ) → ℕ → List Edge
list_view lists f k = retargeted_list f (slice_index_or lists k [])

-- the signature of a state if its list has this one
abbrev pub place_signature : List SharedState → List ℕ → ℕ → SharedState
place_signature places signatures s = let p = slice_index_or places s (record { list = 0; accepting = true }) in record { list = slice_index signatures p.list; accepting = p.accepting }

-- the number of each item's signature is its index among the different signatures
pub record AreSignatures {K : Type 0} (count : ℕ) (view : ℕ → K) (keys : List K) (signatures : List ℕ) : Type 0 where
  pub distinct : HasNoRepeats keys
  pub long : length signatures ≡ count
  pub seen : (s : ℕ) → s < count → slice_get keys (slice_index signatures s) ≡ Some (view s)

-- the name of each item is the least one with the same signature
pub record IsLeastAlike {K : Type 0} (count : ℕ) (view : ℕ → K) (names : List ℕ) : Type 0 where
  pub long : length names ≡ count
  pub low : (s : ℕ) → s < count → slice_index names s ≤ s
  pub same : (s : ℕ) → s < count → view (slice_index names s) ≡ view s
  pub once : (s t : ℕ) → s < count → t < count → view s ≡ view t → slice_index names s ≡ slice_index names t

-- for each signature that occurs at index `from` or later, the first such index
pub record IsFirstPlaces (signatures : List ℕ) (count from : ℕ) (firsts : List ℕ) : Type 0 where
  pub wide : length firsts ≡ count
  pub low : (s : ℕ) → from ≤ s → s < length signatures → slice_index firsts (slice_index signatures s) ≤ s
  pub same : (s : ℕ) → from ≤ s → s < length signatures → slice_index signatures (slice_index firsts (slice_index signatures s)) ≡ slice_index signatures s

-- each name is the least index of its signature
pub record IsLeastPlaces (signatures names : List ℕ) : Type 0 where
  pub long : length names ≡ length signatures
  pub low : (s : ℕ) → s < length signatures → slice_index names s ≤ s
  pub same : (s : ℕ) → s < length signatures → slice_index signatures (slice_index names s) ≡ slice_index signatures s
  pub once : (s t : ℕ) → s < length signatures → t < length signatures → slice_index signatures s ≡ slice_index signatures t → slice_index names s ≡ slice_index names t

-- the number of the class with this name
abbrev pub number_in : List ℕ → ℕ → ℕ
number_in classes c = place_of ◌==◌ c classes

-- the names of states, the classes with these names, and the number of each state's class
pub record IsNumbering (names classes numbers : List ℕ) : Type 0 where
  pub listed : classes ≡ set_of nat_cmp names
  pub numbered : numbers ≡ map (number_in classes) names

-- the name of each state is the least state of its class
pub record AreNames (names : List ℕ) : Type 0 where
  pub low : (s : ℕ) → s < length names → slice_index names s ≤ s
  pub twice : (s : ℕ) → s < length names → slice_index names (slice_index names s) ≡ slice_index names s
