-- When a formula in normal form holds at a position.
use Rattle.std.specs.Prelude.{◌≡◌, ℕ, Bool, ◌⊎◌, ⊤}
use Rattle.ltl_spec.specs.NormalForms.Normal.{Normal, Top, Bottom, Leaf, Next, And, Or, Until, Release}
use Rattle.ltl_spec.specs.Semantics.Satisfaction.{HoldsUntil, HoldsRelease}

-- `truth i p` says whether proposition p is true at position i, and `step i` is the next position
module _ (truth : ℕ → ℕ → Bool) (step : ℕ → ℕ) where
  abbrev pub Holds : Normal → ℕ → Type 0
  Holds Top i = ⊤
  Holds Bottom i = ⊥
  Holds (Leaf l) i = truth i l.proposition ≡ l.positive
  Holds (Next a) i = Holds a (step i)
  Holds (And a b) i = Holds a i × Holds b i
  Holds (Or a b) i = Holds a i ⊎ Holds b i
  Holds (Until a b) i = HoldsUntil step (Holds a) (Holds b) i
  Holds (Release a b) i = HoldsRelease step (Holds a) (Holds b) i
