-- What pairs lack to fulfil until rows.
use Rattle.std.specs.Prelude.{◌≡◌, ℕ, ◌<◌, ◌≤◌, Bool, true, false, List, [], length, map, slice_get, slice_index_or, slice_set, Some}
use Rattle.std.specs.Ordering.{nat_cmp}
use Rattle.ltl_spec.specs.Collections.Sets.{Has, has, union}
use Rattle.ltl_spec.specs.Transitions.Pairs.{Pair, RowSet}
use Rattle.ltl_spec.proofs.Transitions.IndependenceTests.{Support, IsWithinSupport, no_support, of_sign}
use Rattle.ltl_spec.proofs.Transitions.Fulfilment.{passes}
use Rattle.ltl_spec.proofs.Transitions.Steps as steps
use Rattle.ltl_spec.proofs.Transitions.Steps.{tests_of}
use Rattle.ltl_spec.proofs.Transitions.WantedSteps.{AreWanted, AreWantedFrom}
use Rattle.ltl_alt.specs.Columns.{answers_at}
use Rattle.ltl_alt.specs.declared.fulfilment.Fulfilment.{Fulfilment}
use Rattle.ltl_alt.specs.declared.fulfilment.UntilTest.{UntilTest}
use Rattle.ltl_alt.specs.Tests.{AreEarlier, AreLeaves, steps_of}

-- a step is wanted for more pairs
abbrev pub wanted_more : List (List ℕ) → ℕ → List ℕ → List (List ℕ)
wanted_more ws i js = slice_set ws i (union nat_cmp (slice_index_or ws i []) js)

-- the operands of a step are
abbrev pub operands_wanted : List (List ℕ) → steps.Step → List ℕ → List (List ℕ)
operands_wanted ws steps.Always js = ws
operands_wanted ws steps.Never js = ws
operands_wanted ws (steps.Reads l) js = ws
operands_wanted ws (steps.Leads k) js = ws
operands_wanted ws (steps.Both i k) js = wanted_more (wanted_more ws i js) k js
operands_wanted ws (steps.Either i k) js = wanted_more (wanted_more ws i js) k js

-- the support has what the step looks for
abbrev pub IsLeafIn : Support → steps.Step → Type 0
IsLeafIn v steps.Always = Unit {0}
IsLeafIn v steps.Never = Unit {0}
IsLeafIn v (steps.Reads l) = Has (of_sign l.positive v) l.proposition
IsLeafIn v (steps.Leads k) = Has v.targets k
IsLeafIn v (steps.Both i j) = Unit {0}
IsLeafIn v (steps.Either i j) = Unit {0}

-- the support has what each wanted step from number n on looks for, if it isn't passed
abbrev pub AreLeavesFrom : ℕ → List Bool → List steps.Step → List Bool → Support → Type 0
AreLeavesFrom n answers ss wanted v = (k : ℕ) → n ≤ k → k < length ss → slice_index_or wanted k false ≡ true → slice_index_or answers k false ≡ false → IsLeafIn v (slice_index_or ss k steps.Always)

-- the support has the literal or row of the step, if it looks for one
abbrev pub IsLeafWithin : Support → steps.Step → Support → Type 0
IsLeafWithin leaves steps.Always v = Unit {0}
IsLeafWithin leaves steps.Never v = Unit {0}
IsLeafWithin leaves (steps.Reads l) v = IsWithinSupport leaves v
IsLeafWithin leaves (steps.Leads k) v = IsWithinSupport leaves v
IsLeafWithin leaves (steps.Both i j) v = Unit {0}
IsLeafWithin leaves (steps.Either i j) v = Unit {0}

abbrev pub IsWithLeaf : Support → Support → steps.Step → Support → Type 0
IsWithLeaf old leaves s new = IsWithinSupport old new × IsLeafWithin leaves s new

-- no support is less than before, and P holds for those with these indices
pub record AreMore (P : Support → Type 0) (old : List Support) (js : List ℕ) (new : List Support) : Type 0 where
  pub count : length new ≡ length old
  pub kept : (j : ℕ) → IsWithinSupport (slice_index_or old j no_support) (slice_index_or new j no_support)
  pub added : (j : ℕ) → j < length old → Has js j → P (slice_index_or new j no_support)

-- from number n on the operands of wanted steps that aren't passed are wanted, and so are the roots
pub record IsWantedBack (answers : List Bool) (ss : List steps.Step) (roots : List ℕ) (n : ℕ) (wanted : List Bool) : Type 0 where
  pub from : AreWantedFrom n answers ss wanted
  pub rooted : (k : ℕ) → Has roots k → k < length ss → slice_index_or wanted k false ≡ true

-- each step has earlier operands, and its literals and rows are right
pub record AreSteps {A : Type 0} (f : Fulfilment A) : Type 0 where
  pub earlier : AreEarlier (steps_of f.steps.items)
  pub leaves : AreLeaves f.steps.items f.leaves.items

-- the operands of wanted steps that aren't passed were marked as wanted from number n on, and the support has what these steps look for
abbrev pub IsWantedBelow : {A : Type 0} → Fulfilment A → List Bool → List Bool → ℕ → List Bool → Support → Type 0
IsWantedBelow f answers old n new v = (roots : List ℕ) → AreSteps f → IsWantedBack answers (steps_of f.steps.items) roots (length (steps_of f.steps.items)) old
    → IsWantedBack answers (steps_of f.steps.items) roots n new × AreLeavesFrom n answers (steps_of f.steps.items) new v

-- what a pair lacks of these steps: what the wanted steps that it doesn't pass look for
pub record IsLackOf (ss : List steps.Step) (roots : List ℕ) (p : Pair) (v : Support) : Type 0 where
  pub wanted : List Bool
  pub operands : AreWanted p ss wanted
  pub rooted : (k : ℕ) → Has roots k → k < length ss → slice_index_or wanted k false ≡ true
  pub leaves : AreLeavesFrom 0 (map (passes p) (tests_of ss)) ss wanted v

abbrev pub IsLack : {A : Type 0} → Fulfilment A → List ℕ → Pair → Support → Type 0
IsLack f roots p v = AreSteps f → IsLackOf (steps_of f.steps.items) roots p v

-- for each pair of a block, by its index
abbrev pub AreWantedBelow : {A : Type 0} → Fulfilment A → List (List ℕ) → List (List ℕ) → ℕ → List (List ℕ) → List Support → Type 0
AreWantedBelow f cs old n new vs = (j : ℕ) → j < length vs → IsWantedBelow f (answers_at j cs) (answers_at j old) n (answers_at j new) (slice_index_or vs j no_support)

-- what each pair of a block lacks
pub record AreBlockLacks {A : Type 0} (f : Fulfilment A) (roots : List ℕ) (ps : List Pair) (vs : List Support) : Type 0 where
  pub count : length vs ≡ length ps
  pub each : (j : ℕ) (p : Pair) → slice_get ps j ≡ Some p → IsLack f roots p (slice_index_or vs j no_support)

-- the tests of all until rows that count are among these
abbrev pub AreCountedSteps : List UntilTest → RowSet → List ℕ → Type 0
AreCountedSteps us counted roots = (i : ℕ) (u : UntilTest) → slice_get us i ≡ Some u → has nat_cmp u.place counted ≡ true → Has roots u.step
