-- Tests as lists of steps, whose operands are earlier steps.
use Rattle.std.specs.Prelude.{◌≡◌, ℕ, Bool, true, false, ◌&&◌, ◌||◌, ◌⊎◌, List, [], ◌∷◌, ◌++◌, slice_index_or}
use Rattle.std.specs.Ordering.{nat_cmp}
use Rattle.ltl_spec.specs.Collections.Sets.{has}
use Rattle.ltl_spec.specs.Transitions.Cubes.{Literal, literal_cmp}
use Rattle.ltl_spec.specs.Transitions.Pairs.{Pair}
use Rattle.ltl_spec.proofs.Transitions.Fulfilment as by
use Rattle.ltl_spec.proofs.Transitions.Fulfilment.{Test, passes}

-- a test whose operands are earlier steps, by their numbers
pub data Step : Type 0 where
  Always Never : Step
  Reads : Literal → Step
  Leads : ℕ → Step
  Both Either : ℕ → ℕ → Step

-- the test of a number. There is none behind the last one
abbrev pub test_at : List Test → ℕ → Test
test_at ts i = slice_index_or ts i by.Never

-- the test of a step, by the tests of the steps before it
abbrev pub step_test : List Test → Step → Test
step_test ts Always = by.Always
step_test ts Never = by.Never
step_test ts (Reads l) = by.Reads l
step_test ts (Leads k) = by.Leads k
step_test ts (Both i j) = by.Both (test_at ts i) (test_at ts j)
step_test ts (Either i j) = by.Either (test_at ts i) (test_at ts j)

-- the tests of all steps, behind those that there are
abbrev pub tests_from : List Test → List Step → List Test
tests_from ts [] = ts
tests_from ts (s ∷ ss) = tests_from (ts ++ step_test ts s ∷ []) ss

abbrev pub tests_of : List Step → List Test
tests_of ss = tests_from [] ss

-- whether the pair passes a step, by the answers of the steps before it
abbrev pub step_passes : Pair → List Bool → Step → Bool
step_passes p bs Always = true
step_passes p bs Never = false
step_passes p bs (Reads l) = has literal_cmp l p.cube
step_passes p bs (Leads k) = has nat_cmp k p.targets
step_passes p bs (Both i j) = slice_index_or bs i false && slice_index_or bs j false
step_passes p bs (Either i j) = slice_index_or bs i false || slice_index_or bs j false

-- the step has that number as an operand
abbrev pub IsOperand : Step → ℕ → Type 0
IsOperand Always k = ⊥
IsOperand Never k = ⊥
IsOperand (Reads l) k = ⊥
IsOperand (Leads n) k = ⊥
IsOperand (Both i j) k = (k ≡ i) ⊎ (k ≡ j)
IsOperand (Either i j) k = (k ≡ i) ⊎ (k ≡ j)
