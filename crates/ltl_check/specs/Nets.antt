-- Graphs whose states are numbers, and paths and cycles in them.
use Rattle.std.specs.Prelude.{◌≡◌, ℕ, ◌<◌, Bool, true, List, [], ◌∷◌, Option, Some, ◌⊎◌}
use Rattle.ltl_check.specs.declared.graph.Step.{Step}
use Rattle.ltl_check.specs.declared.walk.Taken.{Taken}

-- the looks of a state are numbered from 0, and each finds an edge or nothing
pub record Net : Type 0 where
  pub count : ℕ
  pub start : ℕ
  pub pairs : ℕ → ℕ
  pub successor : ℕ → ℕ → Option (Step ℕ)
  pub accepts : ℕ → Bool

module _ (N : Net) where
  -- the look finds the edge
  pub record IsSuccessor (n k : ℕ) (t : Step ℕ) : Type 0 where
    pub within : k < N.pairs n
    pub found : N.successor n k ≡ Some t

  -- the steps lead from one state to the other
  abbrev pub IsStepPath : ℕ → List Taken → ℕ → Type 0
  IsStepPath s [] e = s ≡ e
  IsStepPath s (t ∷ ts) e = (t.state ≡ s) × ((a : Step ℕ) × IsSuccessor t.state t.pick a × (a.letter ≡ t.letter) × IsStepPath a.target ts e)

  -- one of the states that the steps leave is accepting
  abbrev pub Passes : List Taken → Type 0
  Passes [] = ⊥
  Passes (t ∷ ts) = (N.accepts t.state ≡ true) ⊎ Passes ts

  -- a stem from the start, and a closed walk from its end that passes an accepting state
  pub record IsFound (stem cycle : List Taken) : Type 0 where
    pub end : ℕ
    pub arrives : IsStepPath N.start stem end
    pub cycles : IsStepPath end cycle end
    pub passes : Passes cycle

  -- the state lies on a closed walk
  abbrev pub Cycles : ℕ → Type 0
  Cycles n = (t : Taken) × (ts : List Taken) × IsStepPath n (t ∷ ts) n
