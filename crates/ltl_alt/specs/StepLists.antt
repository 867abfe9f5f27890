-- The lists of pairs that belong to the steps of a program.
use Rattle.std.specs.Prelude.{◌≡◌, ℕ, ◌<◌, Bool, true, false, List, [], ◌∷◌, ◌++◌, length, slice_get, slice_index_or, Option, Some, None}
use Rattle.ltl_spec.specs.Transitions.Pairs as spec
use Rattle.ltl_spec.specs.Transitions.RowTransitions.{Table}
use Rattle.ltl_spec.proofs.Transitions.Steps as steps
use Rattle.ltl_spec.proofs.Transitions.Steps.{IsOperand}
use Rattle.ltl_alt.specs.NeedsView.{IsNeeded}
use Rattle.ltl_alt.specs.StandIns.{StandsFor, IsListed}
use Rattle.ltl_alt.specs.TestPairs.{step_pairs}
use Rattle.ltl_alt.specs.Tests.{steps_of}
use Rattle.ltl_alt.specs.declared.program.Step.{Step}
use Rattle.ltl_alt.specs.declared.rule.Rule.{Rule}

-- the pairs of a step, from the lists of earlier steps
abbrev pub pairs_of : (ℕ → List spec.Pair) → steps.Step → List spec.Pair
pairs_of ps steps.Always = spec.empty_pair ∷ []
pairs_of ps steps.Never = []
pairs_of ps (steps.Reads l) = record { cube = l ∷ []; targets = [] } ∷ []
pairs_of ps (steps.Leads k) = spec.later_pair k ∷ []
pairs_of ps (steps.Both i j) = spec.join (ps i) (ps j)
pairs_of ps (steps.Either i j) = ps i ++ ps j

-- the list that was made, or none
abbrev pub list_or_none : {X : Type 0} → Option (Option (List X)) → List X
list_or_none None = []
list_or_none (Some None) = []
list_or_none (Some (Some xs)) = xs

abbrev pub was_made : {X : Type 0} → Option (Option (List X)) → Bool
was_made None = false
was_made (Some None) = false
was_made (Some (Some xs)) = true

-- the list of that number, and whether it was made
abbrev pub list_at : {X : Type 0} → List (Option (List X)) → ℕ → List X
list_at lists k = list_or_none (slice_get lists k)

abbrev pub is_made : {X : Type 0} → List (Option (List X)) → ℕ → Bool
is_made lists k = was_made (slice_get lists k)

-- these are the pairs of a step, pruned by a rule
abbrev pub IsListedStep : Table → Rule → List Step → ℕ → List spec.Pair → Type 0
IsListedStep T r ss k qs = IsListed (StandsFor T r) (step_pairs ss k) qs

-- each list that was made is right
pub record AreLists (T : Table) (r : Rule) (ss : List Step) (ps : List (Option (List spec.Pair))) : Type 0 where
  pub count : length ps ≡ length ss
  pub each : (k : ℕ) → is_made ps k ≡ true → IsListedStep T r ss k (list_at ps k)

-- the lists of a step's operands were made
abbrev pub AreOperandsMade : List Step → List (Option (List spec.Pair)) → ℕ → Type 0
AreOperandsMade ss ps k = (j : ℕ) → IsOperand (slice_index_or (steps_of ss) k steps.Always) j → is_made ps j ≡ true

-- the needed lists of the first steps were made
abbrev pub MadeBelow : List Bool → ℕ → List (Option (List spec.Pair)) → Type 0
MadeBelow ns n ps = (k : ℕ) → k < n → IsNeeded ns k → is_made ps k ≡ true

-- each list that was made before is still there
abbrev pub IsMore : {X : Type 0} → List (Option (List X)) → List (Option (List X)) → Type 0
IsMore old new = (k : ℕ) → is_made old k ≡ true → is_made new k ≡ true
