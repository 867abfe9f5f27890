-- When a formula holds at a position.
use Rattle.std.specs.Prelude.{ℕ, ◌<◌, Bool, IsTrue, ◌⊎◌, ◌↔◌, List}
use Rattle.ltl_spec.specs.Semantics.Word.{Name, Lasso, next, after_steps, is_true_at}
use Rattle.ltl_spec.specs.Formulas.Formula.{Formula, Constant, Proposition, Unary, Binary, Not, Next, Always, Eventually, And, Or, Implies, Iff, Until, Release}

-- for some number of steps b holds then, and a holds until then
abbrev pub HoldsUntil : (ℕ → ℕ) → (ℕ → Type 0) → (ℕ → Type 0) → ℕ → Type 0
HoldsUntil step a b i = (k : ℕ) × b (after_steps step k i) × ((j : ℕ) → j < k → a (after_steps step j i))

-- for every number of steps b holds then, or a holds before
abbrev pub HoldsRelease : (ℕ → ℕ) → (ℕ → Type 0) → (ℕ → Type 0) → ℕ → Type 0
HoldsRelease step a b i = (k : ℕ) → b (after_steps step k i) ⊎ ((j : ℕ) × (j < k) × a (after_steps step j i))

-- `truth i p` says whether proposition p is true at position i, and `step i` is the next position
module _ (truth : ℕ → ℕ → Bool) (step : ℕ → ℕ) where
  abbrev pub Satisfied : Formula → ℕ → Type 0
  Satisfied (Constant b) i = IsTrue b
  Satisfied (Proposition p) i = IsTrue (truth i p)
  Satisfied (Unary Not a) i = ¬ (Satisfied a i)
  Satisfied (Unary Next a) i = Satisfied a (step i)
  Satisfied (Unary Always a) i = HoldsRelease step (λ _. ⊥) (Satisfied a) i
  Satisfied (Unary Eventually a) i = HoldsUntil step (λ _. Unit {0}) (Satisfied a) i
  Satisfied (Binary And a b) i = Satisfied a i × Satisfied b i
  Satisfied (Binary Or a b) i = Satisfied a i ⊎ Satisfied b i
  Satisfied (Binary Implies a b) i = Satisfied a i → Satisfied b i
  Satisfied (Binary Iff a b) i = Satisfied a i ↔ Satisfied b i
  Satisfied (Binary Until a b) i = HoldsUntil step (Satisfied a) (Satisfied b) i
  Satisfied (Binary Release a b) i = HoldsRelease step (Satisfied a) (Satisfied b) i

-- the formula holds at position i of the word
abbrev pub Satisfies : List Name → Lasso → ℕ → Formula → Type 0
Satisfies names w i F = Satisfied (is_true_at names w) (next w) F i
