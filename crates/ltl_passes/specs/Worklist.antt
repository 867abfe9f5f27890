-- Merging by a worklist: what it keeps of a coarser partition.
use Rattle.std.specs.Prelude.{◌≡◌, ℕ, ◌<◌, Bool, true, false, List, length, slice_index, slice_get, Some}
use Rattle.ltl_spec.specs.Automata.Automaton.{Automaton, Edge, State, state_at}
use Rattle.ltl_spec.specs.Construction.Merging.{class_names, retargeted_state}
use Rattle.ltl_passes.specs.Partition.{AreNames}
use Rattle.ltl_passes.specs.declared.worklist.Merger.{Merger}

-- for each of the first states a state
pub record LeadsInside (count : ℕ) (items : List ℕ) : Type 0 where
  pub long : length items ≡ count
  pub inside : (s : ℕ) → s < count → slice_index items s < count

-- for each of the first states a state with the same name in the coarse partition
pub record LeadsWithin (coarse : ℕ → ℕ) (count : ℕ) (items : List ℕ) : Type 0 where
  pub states : LeadsInside count items
  pub same : (s : ℕ) → s < count → coarse (slice_index items s) ≡ coarse s

-- the names and the links of a partition are of states
pub record AreInside (ns ls : List ℕ) : Type 0 where
  pub names : LeadsInside (length ns) ns
  pub links : LeadsInside (length ns) ls

-- and of states of the same class of a coarser partition
pub record AreWithin (coarse : ℕ → ℕ) (ns ls : List ℕ) : Type 0 where
  pub names : LeadsWithin coarse (length ns) ns
  pub links : LeadsWithin coarse (length ns) ls

-- the name of a state's class after the last round
abbrev pub last_name : Automaton → ℕ → ℕ
last_name A s = slice_index (class_names A (length A.states)) s

-- names of a partition that is as coarse as that of the last round, or finer
pub record AreFiner (A : Automaton) (ns : List ℕ) : Type 0 where
  pub names : AreNames ns
  pub within : LeadsWithin (last_name A) (length A.states) ns

-- the state as it is seen under these names
abbrev pub named_view : Automaton → List ℕ → ℕ → State
named_view A names s = retargeted_state (slice_index names) (state_at A s)

-- in the next round, two states have one name exactly if they are seen as equal
pub record IsRound (A : Automaton) (ns next : List ℕ) : Type 0 where
  pub names : AreNames next
  pub long : length next ≡ length A.states
  pub seen : (s t : ℕ) → s < length A.states → t < length A.states → slice_index next s ≡ slice_index next t → named_view A ns s ≡ named_view A ns t
  pub same : (s t : ℕ) → s < length A.states → t < length A.states → named_view A ns s ≡ named_view A ns t → slice_index next s ≡ slice_index next t

-- the coarse partition gives the name of each state the name of the state
abbrev pub IsCoarser : List ℕ → List ℕ → Type 0
IsCoarser fine coarse = (s : ℕ) → s < length fine → slice_index coarse (slice_index fine s) ≡ slice_index coarse s

-- each noted state has, in one view, what its signature has in another view
pub record AreOwners (count : ℕ) (own : ℕ → State) (view : List Edge → State) (keys : List (List Edge)) (firsts : List ℕ) : Type 0 where
  pub inside : (k : ℕ) → k < length firsts → slice_index firsts k < count
  pub seen : (k : ℕ) → k < length firsts → (es : List Edge) × (slice_get keys k ≡ Some es) × (own (slice_index firsts k) ≡ view es)

-- the state, and the state with these edges, as the last round sees them
abbrev pub own_view : Automaton → ℕ → State
own_view A s = retargeted_state (last_name A) (state_at A s)

abbrev pub edge_view : Automaton → Bool → List Edge → State
edge_view A accepting es = retargeted_state (last_name A) (record { accepting = accepting; edges = es })

-- the partition is no coarser than that of the last round, and its owners are seen by that as they were noted
pub record IsMerger {B : Type 0} (A : Automaton) (w : Merger B) : Type 0 where
  pub long : length w.classes.names.items ≡ length A.states
  pub within : AreWithin (last_name A) w.classes.names.items w.classes.links.items
  pub accepting : AreOwners (length A.states) (own_view A) (edge_view A true) w.accepting.seen.keys w.accepting.firsts.items
  pub others : AreOwners (length A.states) (own_view A) (edge_view A false) w.others.seen.keys w.others.firsts.items

-- the state with this signature, of which the last round sees what it sees of the state that was looked at
pub record IsOwner {B : Type 0} (A : Automaton) (state : ℕ) (w : Merger B) (t : ℕ) : Type 0 where
  pub merger : IsMerger A w
  pub inside : t < length A.states
  pub same : own_view A t ≡ own_view A state
