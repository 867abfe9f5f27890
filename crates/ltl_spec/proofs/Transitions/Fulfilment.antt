-- Tests of a pair for the until rows that it fulfils.
use Rattle.std.specs.Prelude.{ℕ, Bool, true, false, ◌&&◌, ◌||◌, List, [], ◌∷◌, ◌++◌}
use Rattle.std.specs.Ordering.{nat_cmp}
use Rattle.ltl_spec.specs.Collections.Sets.{has}
use Rattle.ltl_spec.specs.Transitions.Cubes.{Literal, literal_cmp}
use Rattle.ltl_spec.specs.NormalForms.Normal.{Normal, Top, Bottom, Leaf, Next, And, Or, Until, Release}
use Rattle.ltl_spec.specs.Transitions.Pairs.{RowSet, Pair}

-- a test of a pair. What asks for more passes too
pub data Test : Type 0 where
  Always Never : Test
  Reads : Literal → Test
  Leads : ℕ → Test
  Both Either : Test → Test → Test

-- the pair asks for what the test wants
abbrev pub passes : Pair → Test → Bool
passes p Always = true
passes p Never = false
passes p (Reads l) = has literal_cmp l p.cube
passes p (Leads k) = has nat_cmp k p.targets
passes p (Both a b) = passes p a && passes p b
passes p (Either a b) = passes p a || passes p b

-- the literals that a test speaks of
abbrev pub literals_of : Test → List Literal
literals_of Always = []
literals_of Never = []
literals_of (Reads l) = l ∷ []
literals_of (Leads k) = []
literals_of (Both a b) = literals_of a ++ literals_of b
literals_of (Either a b) = literals_of a ++ literals_of b

-- the targets that it speaks of
abbrev pub targets_of : Test → RowSet
targets_of Always = []
targets_of Never = []
targets_of (Reads l) = []
targets_of (Leads k) = k ∷ []
targets_of (Both a b) = targets_of a ++ targets_of b
targets_of (Either a b) = targets_of a ++ targets_of b

-- `place` gives the place of an elementary row
module _ (place : Normal → ℕ) where
  -- passed where one of the sets of rows of the formula is among the targets
  abbrev pub set_test : Normal → Test
  set_test Top = Always
  set_test Bottom = Never
  set_test (And a b) = Both (set_test a) (set_test b)
  set_test (Or a b) = Either (set_test a) (set_test b)
  set_test (Leaf l) = Leads (place (Leaf l))
  set_test (Next a) = Leads (place (Next a))
  set_test (Until a b) = Leads (place (Until a b))
  set_test (Release a b) = Leads (place (Release a b))

  -- passed where the pair asks for all that one of the pairs of the formula asks for
  abbrev pub pair_test : Normal → Test
  pair_test Top = Always
  pair_test Bottom = Never
  pair_test (Leaf l) = Reads l
  pair_test (And a b) = Both (pair_test a) (pair_test b)
  pair_test (Or a b) = Either (pair_test a) (pair_test b)
  pair_test (Next a) = set_test a
  pair_test (Until a b) = Either (pair_test b) (Both (pair_test a) (Leads (place (Until a b))))
  pair_test (Release a b) = Both (pair_test b) (Either (pair_test a) (Leads (place (Release a b))))

  -- passed where the pair fulfils the until row
  abbrev pub until_test : Normal → Test
  until_test (Until a b) = pair_test b
  until_test _ = Never
