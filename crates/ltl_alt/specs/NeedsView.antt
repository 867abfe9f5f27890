-- Which steps of a program are needed.
use Rattle.std.specs.Prelude.{◌≡◌, ℕ, Bool, true, false, List, [], slice_index_or}
use Rattle.ltl_spec.specs.Collections.Sets.{Has}
use Rattle.ltl_spec.proofs.Transitions.WantedSteps.{AreWantedFrom}
use Rattle.ltl_alt.specs.Tests.{steps_of}
use Rattle.ltl_alt.specs.declared.program.Step.{Step}

abbrev pub IsNeeded : List Bool → ℕ → Type 0
IsNeeded ns k = slice_index_or ns k false ≡ true

-- the steps with these numbers are, and so are the operands of each one that is
pub record AreNeeded (ss : List Step) (roots : List ℕ) (ns : List Bool) : Type 0 where
  pub asked : (k : ℕ) → Has roots k → IsNeeded ns k
  pub operands : AreWantedFrom 0 [] (steps_of ss) ns
