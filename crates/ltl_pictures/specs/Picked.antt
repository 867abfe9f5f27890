-- What the code holds of the edges that a run takes.
use Rattle.std.specs.Prelude.{◌≡◌, ℕ, ◌<◌, Bool, false, List, [], length, slice_index_or}
use Rattle.ltl_spec.specs.Hoa.HoaReading.{MarkedAutomaton}
use Rattle.ltl_models.specs.BaView.{IsTargetOrder}
use Rattle.ltl_pictures.specs.declared.pick.Pick.{Pick}
use Rattle.ltl_pictures.specs.Picture.{edges_at, is_state_based}
use Rattle.ltl_pictures.specs.RunText.{is_picked}

-- the pick is an edge of the automaton
abbrev pub IsPick : MarkedAutomaton → Pick → Type 0
IsPick A q = (q.state < A.states) × (q.place < length (edges_at A q.state))

-- whether the flag of an edge is set; an edge without a flag is like one whose flag isn't set
abbrev pub is_set : List Bool → ℕ → Bool
is_set flags place = slice_index_or flags place false

-- a flag for each edge of each state; those of these edges are set
pub record AreFlags (A : MarkedAutomaton) (taken : ℕ → ℕ → Bool) (flags : List (List Bool)) : Type 0 where
  pub long : length flags ≡ A.states
  pub rows : (k : ℕ) → k < A.states → length (slice_index_or flags k []) ≡ length (edges_at A k)
  pub set : (k place : ℕ) → k < A.states → is_set (slice_index_or flags k []) place ≡ taken k place

-- for each state the indices of its edges, by target and then by index
pub record AreOrders (A : MarkedAutomaton) (orders : List (List ℕ)) : Type 0 where
  pub long : length orders ≡ A.states
  pub sorted : (k : ℕ) → k < A.states → IsTargetOrder (edges_at A k) (slice_index_or orders k [])

-- the invariant of the type
pub record IsRunDrawing (picks : List Pick) (A : MarkedAutomaton) (orders : List (List ℕ)) (flags : List (List Bool)) (by_states : Bool) : Type 0 where
  pub sorted : AreOrders A orders
  pub taken : AreFlags A (is_picked picks) flags
  pub states : by_states ≡ is_state_based A
