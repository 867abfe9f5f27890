-- From acceptance sets on edges to accepting states: copies of each state, one for each number of sets met in turn.
use Rattle.std.specs.Prelude.{ℕ, zero, suc, ◌+◌, ◌-◌, ◌*◌, Bool, true, ◌&&◌, ◌==◌, if◌then◌else◌, List, [], map, length}
use Rattle.std.specs.declared.cmp.Ordering.{Ordering}
use Rattle.std.specs.Ordering.{nat_cmp, on, then_cmp}
use Rattle.ltl_spec.specs.Collections.Sets.{set_of, has}
use Rattle.ltl_spec.specs.Transitions.Cubes.{Cube, cube_cmp}
use Rattle.ltl_spec.specs.Automata.Listing.{PassesLimits}
use Rattle.ltl_spec.specs.Automata.Automaton.{Automaton, Edge, state_at}
use Rattle.ltl_spec.specs.Automata.Net.{Net, targets_of, listed_automaton}

-- up from a level, at most n levels, as long as the marks hold the set that comes next
abbrev pub climb : ℕ → List ℕ → ℕ → ℕ
climb zero marks level = level
climb (suc n) marks level = if has nat_cmp level marks then climb n marks (level + 1) else level

-- the level to which an edge leads: of so many sets, from the last level as from the first
abbrev pub next_level : ℕ → List ℕ → ℕ → ℕ
next_level sets marks level = let from = if level == sets then 0 else level in climb (sets - from) marks from

-- a state on a level
pub record LevelState : Type 0 where
  pub state : ℕ
  pub level : ℕ

-- where the copies begin
abbrev pub start_copy : LevelState
start_copy = record { state = 0; level = 0 }

abbrev pub same_level_state : LevelState → LevelState → Bool
same_level_state p q = p.state == q.state && p.level == q.level

-- an edge to a copy
pub record LevelEdge : Type 0 where
  pub cube : Cube
  pub copy : LevelState

-- by the literals, then by the state, then by the level
abbrev pub level_edge_cmp : LevelEdge → LevelEdge → Ordering
level_edge_cmp = then_cmp (on (λ e. e.cube) cube_cmp) (then_cmp (on (λ e. e.copy.state) nat_cmp) (on (λ e. e.copy.level) nat_cmp))

module _ (A : Automaton) where
  -- the edge of a copy on this level
  abbrev pub level_edge : ℕ → Edge → LevelEdge
  level_edge level e = record { cube = e.cube; copy = record { state = e.target; level = next_level A.sets e.marks level } }

  -- the edges of a copy, as a set
  abbrev pub level_edges : LevelState → List LevelEdge
  level_edges p = set_of level_edge_cmp (map (level_edge p.level) (state_at A p.state).edges)

  -- the copies with their edges; those on the last level are accepting
  abbrev pub level_net : Net LevelState LevelEdge
  level_net = record { moves = level_edges; target = λ e. e.copy; edge = λ e n. record { cube = e.cube; target = n; marks = [] }; accepts = λ p. p.level == A.sets }

  -- the Büchi automaton of the copies that are reached
  abbrev pub level_automaton : Automaton
  level_automaton = listed_automaton same_level_state true level_net start_copy 0 (length A.states * (A.sets + 1))

  -- it has too many states or edges
  abbrev pub HasTooManyLevelStates : ℕ → ℕ → Type 0
  HasTooManyLevelStates = PassesLimits same_level_state (targets_of level_net) start_copy
