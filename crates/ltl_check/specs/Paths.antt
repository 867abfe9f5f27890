-- Paths with the sets of their edges.
use Rattle.std.specs.Prelude.{◌≡◌, ℕ, true, List}
use Rattle.ltl_check.specs.declared.walk.Taken.{Taken}
use Rattle.ltl_check.specs.Marks.{in_set}
use Rattle.ltl_check.specs.Nets.{Net, IsStepPath}
use Rattle.ltl_check.specs.Levels.{Takes}

-- the steps lead from one state to the other, and take an edge of each set in the marks
pub record IsPathWith (N : Net) (from : ℕ) (steps : List Taken) (end : ℕ) (marks : List ℕ) : Type 0 where
  pub leads : IsStepPath N from steps end
  pub takes : (j : ℕ) → in_set marks j ≡ true → Takes N steps j
