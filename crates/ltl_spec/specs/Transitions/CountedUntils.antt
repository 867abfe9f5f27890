-- Which until rows count while pairs are dropped before a join is complete. For all others inclusion of pairs is enough.
use Rattle.std.specs.Prelude.{◌≡◌, ℕ, true, false, List, [], ◌∷◌}
use Rattle.ltl_spec.specs.Collections.Sets.{Has}
use Rattle.ltl_spec.specs.NormalForms.Normal.{Normal, Top, Bottom, Leaf, Next, And, Or, Until, Release}
use Rattle.ltl_spec.specs.Transitions.Cubes.{Literal}
use Rattle.ltl_spec.specs.Transitions.Pairs.{RowSet, Pair, conj, join, later_pair, pairs}
use Rattle.ltl_spec.specs.Transitions.RowTransitions.{Table, place}
use Rattle.ltl_spec.specs.Transitions.Pruning.{is_counted, fulfilling_pairs}

-- no literal and no target is in a pair of each list
pub record SharesNothing (ps qs : List Pair) : Type 0 where
  pub literals : (p q : Pair) → Has ps p → Has qs q → (l : Literal) → Has p.cube l → Has q.cube l → ⊥
  pub targets : (p q : Pair) → Has ps p → Has qs q → (k : ℕ) → Has p.targets k → Has q.targets k → ⊥

-- `counted` has the places of the until rows that count
module _ (table : Table) (counted : RowSet) where
  -- the pairs of an until row that postpone it
  abbrev pub postponing_pairs : Normal → Normal → List Pair
  postponing_pairs a b = join (pairs (place table) a) (later_pair (place table (Until a b)) ∷ [])

  -- what fulfils an until row that counts shares nothing with these pairs
  abbrev pub IsNeverNeeded : List Pair → Type 0
  IsNeverNeeded qs = (f : Normal) → Has table.untils f → is_counted table counted f ≡ true → SharesNothing (fulfilling_pairs table f) qs

  -- in the formula each until row counts that an X makes a target, and each one that can't be left out without a loss for one that counts
  abbrev pub CountsAll : Normal → Type 0
  CountsAll Top = Unit {0}
  CountsAll Bottom = Unit {0}
  CountsAll (Leaf l) = Unit {0}
  CountsAll (And a b) = CountsAll a × CountsAll b
  CountsAll (Or a b) = CountsAll a × CountsAll b
  CountsAll (Next a) = (f : Normal) → Has table.untils f → (e : RowSet) → Has (conj (place table) a) e → Has e (place table f) → is_counted table counted f ≡ true
  CountsAll (Until a b) = CountsAll a × CountsAll b × (is_counted table counted (Until a b) ≡ false → IsNeverNeeded (postponing_pairs a b))
  CountsAll (Release a b) = CountsAll a × CountsAll b

  -- so it is in all rows of the table
  abbrev pub AreCounted : Type 0
  AreCounted = (a : Normal) → Has table.elementary a → CountsAll a
