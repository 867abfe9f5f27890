-- The pairs of a row: what has to be true now, and which rows have to hold next.
use Rattle.std.specs.Prelude.{ℕ, List, [], ◌∷◌, ◌++◌, map, Option, option_map, flat_map, filter_map}
use Rattle.std.specs.declared.cmp.Ordering.{Ordering}
use Rattle.std.specs.Ordering.{nat_cmp, on, then_cmp}
use Rattle.std.specs.Cmp.Lexicographic.{slice_cmp}
use Rattle.ltl_spec.specs.Collections.Sets.{union, Has}
use Rattle.ltl_spec.specs.Transitions.Cubes.{Cube, cube_cmp, join_cubes, Literal}
use Rattle.ltl_spec.specs.NormalForms.Normal.{Normal, Top, Bottom, Leaf, Next, And, Or, Until, Release}

-- a set of rows, by their places among the elementary rows
abbrev pub RowSet : Type 0
RowSet = List ℕ

-- as sorted lists
abbrev pub row_set_cmp : RowSet → RowSet → Ordering
row_set_cmp = slice_cmp nat_cmp

-- what has to be true now, and the rows that have to hold next
pub record Pair : Type 0 where
  pub cube : Cube
  pub targets : RowSet

-- by the literals, then by the targets
abbrev pub pair_cmp : Pair → Pair → Ordering
pair_cmp = then_cmp (on (λ p. p.cube) cube_cmp) (on (λ p. p.targets) row_set_cmp)

-- both at once, unless the literals contradict each other
abbrev pub join_pair : Pair → Pair → Option Pair
join_pair p q = option_map (λ c. record { cube = c; targets = union nat_cmp p.targets q.targets }) (join_cubes p.cube q.cube)

-- one of each side at once, in every way
abbrev pub join : List Pair → List Pair → List Pair
join ps qs = flat_map (λ p. filter_map (join_pair p) qs) ps

-- the pair that asks for nothing, and the one that asks for this row next
abbrev pub empty_pair : Pair
empty_pair = record { cube = []; targets = [] }

abbrev pub later_pair : ℕ → Pair
later_pair i = record { cube = []; targets = i ∷ [] }

-- one set of each side, united, in every way
abbrev pub unions : List RowSet → List RowSet → List RowSet
unions ds es = flat_map (λ d. map (union nat_cmp d) es) ds

-- `place` gives the place of an elementary row
module _ (place : Normal → ℕ) where
  -- the sets of rows of which one has to hold for the formula to hold
  abbrev pub conj : Normal → List RowSet
  conj Top = [] ∷ []
  conj Bottom = []
  conj (And a b) = unions (conj a) (conj b)
  conj (Or a b) = conj a ++ conj b
  conj (Leaf l) = (place (Leaf l) ∷ []) ∷ []
  conj (Next a) = (place (Next a) ∷ []) ∷ []
  conj (Until a b) = (place (Until a b) ∷ []) ∷ []
  conj (Release a b) = (place (Release a b) ∷ []) ∷ []

  -- the pairs of which one has to be met for the formula to hold. The list stands for a set
  abbrev pub pairs : Normal → List Pair
  pairs Top = empty_pair ∷ []
  pairs Bottom = []
  pairs (Leaf l) = record { cube = l ∷ []; targets = [] } ∷ []
  pairs (And a b) = join (pairs a) (pairs b)
  pairs (Or a b) = pairs a ++ pairs b
  pairs (Next a) = map (λ e. record { cube = []; targets = e }) (conj a)
  pairs (Until a b) = pairs b ++ join (pairs a) (later_pair (place (Until a b)) ∷ [])
  pairs (Release a b) = join (pairs b) (pairs a ++ later_pair (place (Release a b)) ∷ [])

-- p asks for no more than r
pub record Within (p r : Pair) : Type 0 where
  pub cube : (l : Literal) → Has p.cube l → Has r.cube l
  pub targets : (k : ℕ) → Has p.targets k → Has r.targets k
