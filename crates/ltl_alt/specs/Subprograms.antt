-- Parts of programs, whose steps are numbered anew.
use Rattle.std.specs.Prelude.{◌≡◌, ℕ, ◌<◌, Bool, List, length, slice_index_or}
use Rattle.ltl_spec.specs.NormalForms.Normal.{Bottom}
use Rattle.ltl_spec.specs.Transitions.RowTransitions.{Table, place}
use Rattle.ltl_spec.proofs.Transitions.Fulfilment.{until_test}
use Rattle.ltl_alt.specs.NeedsView.{IsNeeded}
use Rattle.ltl_alt.specs.Steps.{AreOrdered, IsStepOf}
use Rattle.ltl_alt.specs.Tests.{test_of}
use Rattle.ltl_alt.specs.declared.program.Step.{Step}
use Rattle.ltl_alt.specs.declared.program.Step.TheVariants as step

-- the new number of a step
abbrev pub number_at : List ℕ → ℕ → ℕ
number_at numbers k = slice_index_or numbers k 0

-- a step with the new numbers of its operands
abbrev pub renumbered : List ℕ → Step → Step
renumbered numbers step.Always = step.Always
renumbered numbers step.Never = step.Never
renumbered numbers (step.Reads l) = step.Reads l
renumbered numbers (step.Leads k) = step.Leads k
renumbered numbers (step.Both i j) = step.Both (number_at numbers i) (number_at numbers j)
renumbered numbers (step.Either i j) = step.Either (number_at numbers i) (number_at numbers j)

-- the needed ones of the first n steps were numbered anew, each with its test
pub record IsPart (ss : List Step) (needed : List Bool) (n : ℕ) (kept : List Step) (numbers : List ℕ) : Type 0 where
  pub count : length numbers ≡ n
  pub ordered : AreOrdered kept
  pub same : (k : ℕ) → k < n → IsNeeded needed k → IsStepOf kept (number_at numbers k) (test_of ss k)

-- the part has the test of each until row
abbrev pub HasTests : Table → List ℕ → List Step → List ℕ → Type 0
HasTests T tests kept numbers = (i : ℕ) → i < length T.untils → IsStepOf kept (number_at numbers (number_at tests i)) (until_test (place T) (slice_index_or T.untils i Bottom))
