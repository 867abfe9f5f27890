-- The straight-line program of the rows of a table.
use Rattle.std.specs.Prelude.{◌≡◌, ℕ, ◌<◌, List, length, slice_index_or}
use Rattle.ltl_sets.specs.Literals.{literal_of}
use Rattle.ltl_spec.specs.NormalForms.Normal.{Bottom}
use Rattle.ltl_spec.specs.Transitions.RowTransitions.{Table, place}
use Rattle.ltl_spec.proofs.Transitions.Fulfilment as test
use Rattle.ltl_spec.proofs.Transitions.Fulfilment.{Test, pair_test, set_test, until_test}
use Rattle.ltl_spec.proofs.Transitions.Steps.{step_test, tests_of}
use Rattle.ltl_formula.specs.TableView.{TableView, row_tree}
use Rattle.ltl_formula.specs.declared.row.Row.{Row}
use Rattle.ltl_formula.specs.declared.row.Row.TheVariants as row
use Rattle.ltl_alt.specs.RowLists.{row_place}
use Rattle.ltl_alt.specs.Tests.{AreEarlier, AreSmall, HasOperands, IsSmall, step_of, steps_of, test_of}
use Rattle.ltl_alt.specs.declared.program.RowSteps.{RowSteps}
use Rattle.ltl_alt.specs.declared.program.Step.{Step}

-- the step with this number is the test
pub record IsStepOf (ss : List Step) (k : ℕ) (a : Test) : Type 0 where
  pub below : k < length ss
  pub test : test_of ss k ≡ a

-- the test of a step, from earlier steps
abbrev pub test_by : List Step → Step → Test
test_by ss s = step_test (tests_of (steps_of ss)) (step_of s)

-- steps were appended
pub record IsGrown (old new : List Step) : Type 0 where
  pub earlier : AreEarlier (steps_of new)
  pub small : AreSmall new
  pub stays : (k : ℕ) (a : Test) → IsStepOf old k a → IsStepOf new k a

-- steps were appended, and the one with this number is the test
pub record IsNumbered (old new : List Step) (k : ℕ) (a : Test) : Type 0 where
  pub grown : IsGrown old new
  pub step : IsStepOf new k a

-- the test of the pairs of a row with a place, from those of its operands
abbrev pub pair_test_from : (ℕ → Test) → (ℕ → Test) → ℕ → Row → Test
pair_test_from ps es at row.True = test.Always
pair_test_from ps es at row.False = test.Never
pair_test_from ps es at (row.Literal l) = test.Reads (literal_of l)
pair_test_from ps es at (row.Next i) = es i
pair_test_from ps es at (row.And i j) = test.Both (ps i) (ps j)
pair_test_from ps es at (row.Or i j) = test.Either (ps i) (ps j)
pair_test_from ps es at (row.Until i j) = test.Either (ps j) (test.Both (ps i) (test.Leads at))
pair_test_from ps es at (row.Release i j) = test.Both (ps j) (test.Either (ps i) (test.Leads at))

-- the test of its sets
abbrev pub set_test_from : (ℕ → Test) → ℕ → Row → Test
set_test_from es at row.True = test.Always
set_test_from es at row.False = test.Never
set_test_from es at (row.And i j) = test.Both (es i) (es j)
set_test_from es at (row.Or i j) = test.Either (es i) (es j)
set_test_from es at (row.Literal l) = test.Leads at
set_test_from es at (row.Next i) = test.Leads at
set_test_from es at (row.Until i j) = test.Leads at
set_test_from es at (row.Release i j) = test.Leads at

-- each step has earlier operands and small numbers
pub record AreOrdered (ss : List Step) : Type 0 where
  pub earlier : AreEarlier (steps_of ss)
  pub small : AreSmall ss

-- a step with earlier operands was given this number
abbrev pub IsGiven : List Step → List Step → ℕ → Step → Type 0
IsGiven old new k s = AreOrdered old → IsSmall s → HasOperands (length old) (step_of s) → IsNumbered old new k (test_by old s)

-- the numbers of the steps of a row
abbrev pub steps_at : List RowSteps → ℕ → RowSteps
steps_at rs k = slice_index_or rs k (record { pairs = 0; sets = 0 })

-- the operands' steps from which the test of a row's pairs is made are right
abbrev pub HavePairSteps : List Step → List RowSteps → (ℕ → Test) → (ℕ → Test) → Row → Type 0
HavePairSteps ss rs ps es row.True = Unit {0}
HavePairSteps ss rs ps es row.False = Unit {0}
HavePairSteps ss rs ps es (row.Literal l) = Unit {0}
HavePairSteps ss rs ps es (row.Next i) = IsStepOf ss (steps_at rs i).sets (es i)
HavePairSteps ss rs ps es (row.And i j) = IsStepOf ss (steps_at rs i).pairs (ps i) × IsStepOf ss (steps_at rs j).pairs (ps j)
HavePairSteps ss rs ps es (row.Or i j) = IsStepOf ss (steps_at rs i).pairs (ps i) × IsStepOf ss (steps_at rs j).pairs (ps j)
HavePairSteps ss rs ps es (row.Until i j) = IsStepOf ss (steps_at rs i).pairs (ps i) × IsStepOf ss (steps_at rs j).pairs (ps j)
HavePairSteps ss rs ps es (row.Release i j) = IsStepOf ss (steps_at rs i).pairs (ps i) × IsStepOf ss (steps_at rs j).pairs (ps j)

-- the operands' steps from which the test of its sets is made are right
abbrev pub HaveSetSteps : List Step → List RowSteps → (ℕ → Test) → Row → Type 0
HaveSetSteps ss rs es row.True = Unit {0}
HaveSetSteps ss rs es row.False = Unit {0}
HaveSetSteps ss rs es (row.And i j) = IsStepOf ss (steps_at rs i).sets (es i) × IsStepOf ss (steps_at rs j).sets (es j)
HaveSetSteps ss rs es (row.Or i j) = IsStepOf ss (steps_at rs i).sets (es i) × IsStepOf ss (steps_at rs j).sets (es j)
HaveSetSteps ss rs es (row.Literal l) = Unit {0}
HaveSetSteps ss rs es (row.Next i) = Unit {0}
HaveSetSteps ss rs es (row.Until i j) = Unit {0}
HaveSetSteps ss rs es (row.Release i j) = Unit {0}

-- the numbers of the steps of a row
pub record AreRowSteps (t : TableView) (ss : List Step) (k : ℕ) (r : RowSteps) : Type 0 where
  pub pairs : IsStepOf ss r.pairs (pair_test (row_place t) (row_tree t k))
  pub sets : IsStepOf ss r.sets (set_test (row_place t) (row_tree t k))

-- the steps of the first rows are right
pub record IsProgram (t : TableView) (ss : List Step) (rs : List RowSteps) : Type 0 where
  pub ordered : AreOrdered ss
  pub rows : (k : ℕ) → k < length rs → AreRowSteps t ss k (steps_at rs k)

-- so are those of all rows
pub record IsWholeProgram (t : TableView) (ss : List Step) (rs : List RowSteps) : Type 0 where
  pub program : IsProgram t ss rs
  pub count : length rs ≡ length t.rows

-- the number of the step of an until row's test
abbrev pub until_step : List RowSteps → Row → ℕ
until_step rs row.True = 0
until_step rs row.False = 0
until_step rs (row.Literal l) = 0
until_step rs (row.Next i) = 0
until_step rs (row.And i j) = 0
until_step rs (row.Or i j) = 0
until_step rs (row.Until i j) = (steps_at rs j).pairs
until_step rs (row.Release i j) = 0

-- the first until rows have these tests
pub record AreUntilSteps (T : Table) (ss : List Step) (n : ℕ) (ks : List ℕ) : Type 0 where
  pub count : length ks ≡ n
  pub each : (i : ℕ) → i < n → IsStepOf ss (slice_index_or ks i 0) (until_test (place T) (slice_index_or T.untils i Bottom))
