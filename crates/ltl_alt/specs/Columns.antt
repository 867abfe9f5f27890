-- Columns of a block of pairs: for each step the set of the indices of those pairs that pass it.
use Rattle.std.specs.Prelude.{◌≡◌, ℕ, ◌<◌, Bool, true, false, not, List, [], filter, length, map, slice_get, slice_index_or, Some}
use Rattle.std.specs.Ordering.{nat_cmp}
use Rattle.ltl_spec.specs.Collections.Sets.{has}
use Rattle.ltl_spec.specs.NormalForms.Normal.{Bottom}
use Rattle.ltl_spec.specs.Transitions.Cubes.{is_contradictory}
use Rattle.ltl_spec.specs.Transitions.Pairs.{Pair}
use Rattle.ltl_spec.specs.Transitions.RowTransitions.{Table, is_marked}
use Rattle.ltl_spec.proofs.Transitions.Fulfilment.{passes}
use Rattle.ltl_spec.proofs.Transitions.Steps as steps
use Rattle.ltl_spec.proofs.Transitions.Steps.{step_passes, tests_of}
use Rattle.least.specs.Columns.{AreColumnsOf, ColumnTable, column_at}
use Rattle.ltl_alt.specs.Elements.{needs_of}
use Rattle.ltl_alt.specs.declared.columns.Needing.{Needing}
use Rattle.ltl_alt.specs.declared.fulfilment.UntilTest.{UntilTest}

-- the set has the indices of those pairs of the block for which f is true
abbrev pub IsColumn : (Pair → Bool) → List Pair → List ℕ → Type 0
IsColumn f ps c = (j : ℕ) (p : Pair) → slice_get ps j ≡ Some p → has nat_cmp j c ≡ f p

-- the pairs of a block by what they need: the propositions of their positive and of their negative literals, and the places of their targets
pub record IsNeeding {A : Type 0} (ps : List Pair) (n : Needing A) : Type 0 where
  pub all : IsColumn (λ p. true) ps n.all
  pub positive : AreColumnsOf (map (λ p. needs_of p 0) ps) n.positive
  pub negative : AreColumnsOf (map (λ p. needs_of p 1) ps) n.negative
  pub targets : AreColumnsOf (map (λ p. needs_of p 2) ps) n.targets

-- whether index j is in each of the sets
abbrev pub answers_at : ℕ → List (List ℕ) → List Bool
answers_at j cs = map (has nat_cmp j) cs

-- the column of a step, by those of the steps before it
abbrev pub IsStepColumn : List Pair → List (List ℕ) → steps.Step → List ℕ → Type 0
IsStepColumn ps cs s c = (j : ℕ) (p : Pair) → slice_get ps j ≡ Some p → has nat_cmp j c ≡ step_passes p (answers_at j cs) s

-- the columns of all steps
abbrev pub AreColumns : List steps.Step → List Pair → List (List ℕ) → Type 0
AreColumns ss ps cs = (j : ℕ) (p : Pair) → slice_get ps j ≡ Some p → answers_at j cs ≡ map (passes p) (tests_of ss)

-- the pairs that have an until row as a target and don't pass its test
abbrev pub unmarked_by : {A : Type 0} → Needing A → List (List ℕ) → UntilTest → List ℕ
unmarked_by n cs u = filter (λ j. not (has nat_cmp j (slice_index_or cs u.step []))) (column_at n.targets u.place)

-- the numbers of the until rows for which a pair isn't marked
abbrev pub IsUnmarked : Table → Pair → List ℕ → Type 0
IsUnmarked T p c = is_contradictory p.cube ≡ false → (i : ℕ) → i < length T.untils → has nat_cmp i c ≡ not (is_marked T p (slice_index_or T.untils i Bottom))

-- for each pair of a block
abbrev pub AreUnmarked : Table → List Pair → ColumnTable → Type 0
AreUnmarked T ps c = (j : ℕ) (p : Pair) → slice_get ps j ≡ Some p → IsUnmarked T p (column_at c j)
