-- Splitting of a step into conjuncts: the joins of one pair of each are the pairs of the step.
use Rattle.std.specs.Prelude.{◌≡◌, ◌+◌, ◌<◌, ◌≤◌, ℕ, List, [], ◌∷◌, ◌++◌, length}
use Rattle.ltl_spec.specs.Collections.Sets.{Has}
use Rattle.ltl_spec.specs.Transitions.Pairs.{Pair, join}
use Rattle.ltl_alt.specs.TestPairs.{step_pairs}
use Rattle.ltl_alt.specs.declared.program.Step.{Step}

-- these are numbers of steps
abbrev pub AreInside : List Step → List ℕ → Type 0
AreInside ss ks = (k : ℕ) → Has ks k → k < length ss

-- there is a number for each of these conjuncts after the first n
pub record AreFew (ss : List Step) (ks : List ℕ) (n : ℕ) : Type 0 where
  pub inside : AreInside ss ks
  pub few : n + length ks ≤ 256

-- the joins of the pairs of these two are the pairs of the step
pub record AreTwoConjuncts (ss : List Step) (k : ℕ) (two : ℕ × ℕ) : Type 0 where
  pub first : two.0 < length ss
  pub second : two.1 < length ss
  pub joined : step_pairs ss k ≡ join (step_pairs ss two.0) (step_pairs ss two.1)

-- the pairs of the steps of a stack, the last step first
abbrev pub stacked_pairs : List Step → List ℕ → List (List Pair)
stacked_pairs ss [] = []
stacked_pairs ss (k ∷ ks) = stacked_pairs ss ks ++ step_pairs ss k ∷ []
