-- An automaton as a drawing: its accepting states, and one arrow from a state to each of its targets.
use Rattle.std.specs.Prelude.{ℕ, Bool, true, false, not, ◌&&◌, ◌||◌, ◌==◌, List, [], ◌∷◌, length, map, filter}
use Rattle.std.specs.List.{list_all, list_any, range_with_len}
use Rattle.std.specs.Ordering.{nat_cmp}
use Rattle.ltl_spec.specs.Collections.Sets.{set_of}
use Rattle.ltl_spec.specs.Automata.Automaton.{Edge}
use Rattle.ltl_spec.specs.Hoa.HoaReading.{MarkedAutomaton}
use Rattle.ltl_text.specs.Options.{edge_at}
-- the edges of a state
pub use Rattle.ltl_pictures.specs.Edges.{edges_at}

-- whether the edge is in an acceptance set
abbrev pub has_some : List ℕ → Bool
has_some [] = false
has_some (k ∷ ks) = true

abbrev pub is_marked : Edge → Bool
is_marked e = has_some e.marks

-- either all edges of a state are in the set or none is
abbrev pub is_even : List Edge → Bool
is_even es = list_all is_marked es || not (list_any is_marked es)

-- there is one acceptance set, and of each state all edges are in it or none is
abbrev pub is_state_based : MarkedAutomaton → Bool
is_state_based A = A.sets == 1 && list_all is_even A.edges

-- a state with an edge, each of whose edges is in an acceptance set
abbrev pub is_accepting : List Edge → Bool
is_accepting es = list_any is_marked es && list_all is_marked es

-- an arrow, and the indices of the edges that it represents
pub record Arrow : Type 0 where
  pub from : ℕ
  pub to : ℕ
  pub places : List ℕ

-- the arrow from state k with these edges to a target
abbrev pub arrow_to : ℕ → List Edge → ℕ → Arrow
arrow_to k es t = record { from = k; to = t; places = filter (λ p. (edge_at es p).target == t) (range_with_len 0 (length es)) }

-- the arrows from the state, in the order of their targets
abbrev pub arrows : ℕ → List Edge → List Arrow
arrows k es = map (arrow_to k es) (set_of nat_cmp (map (λ e. e.target) es))
