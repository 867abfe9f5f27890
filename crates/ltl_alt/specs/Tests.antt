-- The tests of until rows, as the code has them.
use Rattle.std.specs.Prelude.{◌≡◌, ℕ, ◌<◌, ◌≤◌, List, length, map, slice_get, slice_index_or, Some}
use Rattle.ltl_sets.specs.Literals.{literal_of}
use Rattle.ltl_spec.specs.NormalForms.Normal.{Bottom, Normal}
use Rattle.ltl_spec.specs.Transitions.RowTransitions.{Table, table_of, place}
use Rattle.ltl_spec.proofs.Transitions.IndependenceTests.{Support}
use Rattle.ltl_spec.proofs.Transitions.SupportTests.{AllTell}
use Rattle.ltl_spec.proofs.Transitions.Fulfilment as spec
use Rattle.ltl_spec.proofs.Transitions.Fulfilment.{until_test}
use Rattle.ltl_spec.proofs.Transitions.Steps as steps
use Rattle.ltl_spec.proofs.Transitions.Steps.{IsOperand, test_at, tests_of}
use Rattle.ltl_alt.specs.declared.fulfilment.Fulfilment.{Fulfilment}
use Rattle.ltl_alt.specs.declared.fulfilment.UntilTest.{UntilTest}
use Rattle.ltl_alt.specs.declared.program.Step.{Step}
use Rattle.ltl_alt.specs.declared.program.Step.TheVariants as step

-- a step as the theory has it
abbrev pub step_of : Step → steps.Step
step_of step.Always = steps.Always
step_of step.Never = steps.Never
step_of (step.Reads l) = steps.Reads (literal_of l)
step_of (step.Leads k) = steps.Leads k
step_of (step.Both i j) = steps.Both i j
step_of (step.Either i j) = steps.Either i j

abbrev pub steps_of : List Step → List steps.Step
steps_of ss = map step_of ss

-- the test of the step of that number
abbrev pub test_of : List Step → ℕ → spec.Test
test_of ss k = test_at (tests_of (steps_of ss)) k

-- its operands come before number n
abbrev pub HasOperands : ℕ → steps.Step → Type 0
HasOperands n s = (j : ℕ) → IsOperand s j → j < n

-- the operands of each step come before it
abbrev pub AreEarlier : List steps.Step → Type 0
AreEarlier ss = (k : ℕ) → k < length ss → HasOperands k (slice_index_or ss k steps.Always)

-- what it speaks of has a number below the limit
abbrev pub IsSmall : Step → Type 0
IsSmall step.Always = Unit {0}
IsSmall step.Never = Unit {0}
IsSmall (step.Reads l) = l.proposition < 256
IsSmall (step.Leads k) = k < 256
IsSmall (step.Both i j) = Unit {0}
IsSmall (step.Either i j) = Unit {0}

abbrev pub AreSmall : List Step → Type 0
AreSmall ss = (k : ℕ) (s : Step) → slice_get ss k ≡ Some s → IsSmall s

-- the place of an until row, and the number of the step that is its test
pub record IsUntilTest (T : Table) (ss : List Step) (u : UntilTest) (f : Normal) : Type 0 where
  pub place_of : u.place ≡ place T f
  pub below : u.step < length ss
  pub test : test_of ss u.step ≡ until_test (place T) f

-- these are the literals and the rows that the steps speak of
pub record AreLeaves (ss : List Step) (ls : List Support) : Type 0 where
  pub count : length ls ≡ length ss
  pub tell : AllTell ls (tests_of (steps_of ss))

-- there is a test for each until row
pub record AreTestsOf (T : Table) (ss : List Step) (ls : List Support) (us : List UntilTest) : Type 0 where
  pub core : Normal
  pub is_table : T ≡ table_of core
  pub earlier : AreEarlier (steps_of ss)
  pub leaves : AreLeaves ss ls
  pub few : length us ≤ 256
  pub count : length us ≡ length T.untils
  pub each : (i : ℕ) (u : UntilTest) → slice_get us i ≡ Some u → IsUntilTest T ss u (slice_index_or T.untils i Bottom)

abbrev pub AreTests : {A : Type 0} → Table → Fulfilment A → Type 0
AreTests T f = AreTestsOf T f.steps.items f.leaves.items f.untils.items
