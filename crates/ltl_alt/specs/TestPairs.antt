-- The disjunctive normal form of a test, as a list of pairs.
use Rattle.std.specs.Prelude.{ℕ, List, [], ◌∷◌, ◌++◌}
use Rattle.ltl_spec.specs.Transitions.Pairs.{Pair, empty_pair, join, later_pair}
use Rattle.ltl_spec.proofs.Transitions.Fulfilment as test
use Rattle.ltl_spec.proofs.Transitions.Fulfilment.{Test}
use Rattle.ltl_alt.specs.Tests.{test_of}
use Rattle.ltl_alt.specs.declared.program.Step.{Step}

-- a pair passes the test if it needs all that one of these needs
abbrev pub dnf : Test → List Pair
dnf test.Always = empty_pair ∷ []
dnf test.Never = []
dnf (test.Reads l) = record { cube = l ∷ []; targets = [] } ∷ []
dnf (test.Leads k) = later_pair k ∷ []
dnf (test.Both a b) = join (dnf a) (dnf b)
dnf (test.Either a b) = dnf a ++ dnf b

-- the pairs of the step with this number
abbrev pub step_pairs : List Step → ℕ → List Pair
step_pairs ss k = dnf (test_of ss k)
