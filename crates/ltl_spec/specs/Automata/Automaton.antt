-- Automata with acceptance on states and on edges, and the words that they accept.
use Rattle.std.specs.Prelude.{◌≡◌, ◌≢◌, ℕ, ◌<◌, Bool, true, IsTrue, List, [], ◌∷◌, slice_index_or}
use Rattle.std.specs.declared.cmp.Ordering.{Ordering}
use Rattle.std.specs.Ordering.{nat_cmp, on, then_cmp}
use Rattle.std.specs.Cmp.Lexicographic.{slice_cmp}
use Rattle.ltl_spec.specs.Collections.Sets.{Has}
use Rattle.ltl_spec.specs.Transitions.Cubes.{Cube, cube_cmp, allows}
use Rattle.ltl_spec.specs.Semantics.Word.{Name, Lasso, next, is_true_at}

-- an edge carries literals and the acceptance sets that it is in
pub record Edge : Type 0 where
  pub cube : Cube
  pub target : ℕ
  pub marks : List ℕ

pub record State : Type 0 where
  pub accepting : Bool
  pub edges : List Edge

-- The states are numbered from 0, the start. In a generalized automaton every state is accepting, in a Büchi automaton there is no set
pub record Automaton : Type 0 where
  pub sets : ℕ
  pub states : List State

-- by the literals, then the target, then the marks
abbrev pub edge_cmp : Edge → Edge → Ordering
edge_cmp = then_cmp (on (λ e. e.cube) cube_cmp) (then_cmp (on (λ e. e.target) nat_cmp) (on (λ e. e.marks) (slice_cmp nat_cmp)))

-- the state with this number; where there is none, one without edges
abbrev pub state_at : Automaton → ℕ → State
state_at A s = slice_index_or A.states s (record { accepting = true; edges = [] })

-- `truth i p` says whether proposition p is true at position i, and `step i` is the next position
module _ (A : Automaton) (truth : ℕ → ℕ → Bool) (step : ℕ → ℕ) where
  -- the edges lead from state s at position i to state t at position j
  abbrev pub IsWalk : ℕ → ℕ → List Edge → ℕ → ℕ → Type 0
  IsWalk s i [] t j = (s ≡ t) × (i ≡ j)
  IsWalk s i (e ∷ es) t j = Has (state_at A s).edges e × IsTrue (allows (truth i) e.cube) × IsWalk e.target (step i) es t j

  -- a closed walk that isn't empty, passes an accepting state and has an edge of every set
  pub record IsAcceptingCycle (s i : ℕ) (cycle : List Edge) : Type 0 where
    pub closes : IsWalk s i cycle s i
    pub moves : cycle ≢ []
    pub accepts : (e : Edge) × Has cycle e × IsTrue (state_at A e.target).accepting
    pub marks : (k : ℕ) → k < A.sets → (e : Edge) × Has cycle e × Has e.marks k

-- a walk from this state at position 0 leads to an accepting cycle
pub record AcceptedFrom (start : ℕ) (A : Automaton) (truth : ℕ → ℕ → Bool) (step : ℕ → ℕ) : Type 0 where
  pub state : ℕ
  pub position : ℕ
  pub stem : List Edge
  pub cycle : List Edge
  pub arrives : IsWalk A truth step start 0 stem state position
  pub cycles : IsAcceptingCycle A truth step state position cycle

-- the automaton, started in this state, accepts the word
abbrev pub AcceptsFrom : ℕ → List Name → Automaton → Lasso → Type 0
AcceptsFrom start names A w = AcceptedFrom start A (is_true_at names w) (next w)

-- the automaton accepts the word
abbrev pub Accepts : List Name → Automaton → Lasso → Type 0
Accepts names A w = AcceptsFrom 0 names A w
