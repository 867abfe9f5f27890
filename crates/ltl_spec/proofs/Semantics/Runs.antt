-- Infinite runs of an automaton. No definition mentions them: proofs go from closed walks to runs, and back at the end.
use Rattle.std.specs.Prelude.{◌≡◌, ℕ, suc, ◌<◌, ◌≤◌, Bool, IsTrue, length}
use Rattle.ltl_spec.specs.Collections.Sets.{Has}
use Rattle.ltl_spec.specs.Transitions.Cubes.{allows}
use Rattle.ltl_spec.specs.Semantics.Word.{after_steps}
use Rattle.ltl_spec.specs.Automata.Automaton.{Automaton, Edge, state_at}

-- An accepting run from a state: the state and the edge at each time. `holds i p` says whether proposition p is true at position i, and
-- `step i` is the next position
pub record RunFrom (start : ℕ) (A : Automaton) (holds : ℕ → ℕ → Bool) (step : ℕ → ℕ) : Type 0 where
  pub state : ℕ → ℕ
  pub edge : ℕ → Edge
  pub starts : state 0 ≡ start
  pub edges : (k : ℕ) → Has (state_at A (state k)).edges (edge k)
  pub leads : (k : ℕ) → state (suc k) ≡ (edge k).target
  pub allowed : (k : ℕ) → IsTrue (allows (holds (after_steps step k 0)) (edge k).cube)
  -- an accepting state comes again and again
  pub accepts : (k : ℕ) → (j : ℕ) × (k ≤ j) × IsTrue (state_at A (state j)).accepting
  -- an edge of each set comes again and again
  pub marks : (f k : ℕ) → f < A.sets → (j : ℕ) × (k ≤ j) × Has (edge j).marks f

-- an accepting run of the automaton, from state 0
abbrev pub Run : Automaton → (ℕ → ℕ → Bool) → (ℕ → ℕ) → Type 0
Run A holds step = RunFrom 0 A holds step

-- the positions that are reached from the first one are fewer than n
abbrev pub IsBounded : (ℕ → ℕ) → ℕ → Type 0
IsBounded step n = (k : ℕ) → after_steps step k 0 < n

-- each edge leads to a state, and there is a state to start from
pub record IsClosed (A : Automaton) : Type 0 where
  pub begins : 0 < length A.states
  pub inside : (s : ℕ) (e : Edge) → Has (state_at A s).edges e → e.target < length A.states
