-- The table of a formula as the list of its rows, and the normal form that it stands for.
use Rattle.std.specs.Prelude.{◌≡◌, ◌<◌, ◌≤◌, ◌+◌, ◌-◌, ◌||◌, ◌==◌, ℕ, Bool, true, false, if◌then◌else◌, List, [], ◌∷◌, length, map, slice_index_or, All}
use Rattle.ltl_spec.specs.Collections.Lists.{places_where}
use Rattle.ltl_spec.specs.NormalForms.Normal.{Normal, same}
use Rattle.ltl_spec.specs.NormalForms.NormalForm as normal
use Rattle.ltl_spec.specs.NormalForms.SharedNodes.{trees, tree_at}
use Rattle.ltl_spec.specs.Tools.Limits.{stated_limits}
use Rattle.ltl_formula.specs.SharedNodesView.{IsBelow, node_of}
use Rattle.ltl_formula.specs.declared.row.Row.{Row}
use Rattle.ltl_formula.specs.declared.row.Row.TheVariants as row

-- the rows, and the numbers of the until rows and of the elementary rows
pub record TableView : Type 0 where
  pub rows : List Row
  pub untils : List ℕ
  pub elementary : List ℕ

-- the normal forms that rows stand for
abbrev pub row_trees : List Row → List Normal
row_trees rs = trees (map node_of rs)

-- the normal form of a row
abbrev pub row_tree : TableView → ℕ → Normal
row_tree t i = tree_at (map node_of t.rows) i

-- the normal form of the last row, the whole formula's
abbrev pub core_of : TableView → Normal
core_of t = row_tree t (length t.rows - 1)

-- operands are rows before their row
abbrev pub AreOrdered : List Row → Type 0
AreOrdered rs = (i : ℕ) (d : Row) → i < length rs → IsBelow i (slice_index_or rs i d)

-- the proposition of a literal is one of the first n
abbrev pub IsNamedBelow : ℕ → Row → Type 0
IsNamedBelow n (row.Literal l) = l.proposition < n
IsNamedBelow n _ = Unit {0}

-- the table of a normal form: its rows, the places of its until rows and those of its elementary rows
pub record IsTableOf (F : Normal) (t : TableView) : Type 0 where
  pub rows : row_trees t.rows ≡ normal.rows F
  pub untils : t.untils ≡ places_where normal.is_until (normal.rows F)
  pub elementary : t.elementary ≡ places_where (λ a. normal.is_elementary a || same a F) (normal.rows F)

-- a table: that of the normal form of its last row, within the limits
pub record IsTable (t : TableView) : Type 0 where
  pub some : 0 < length t.rows
  pub few : length t.rows ≤ stated_limits.rows
  pub few_elementary : length t.elementary ≤ stated_limits.elementary_rows
  pub ordered : AreOrdered t.rows
  pub literals : All (IsNamedBelow stated_limits.propositions) t.rows
  pub table : IsTableOf (core_of t) t

-- ---- tests on rows

abbrev pub is_until_row : Row → Bool
is_until_row (row.Until i j) = true
is_until_row _ = false

abbrev pub is_elementary_row : Row → Bool
is_elementary_row (row.Literal l) = true
is_elementary_row (row.Next i) = true
is_elementary_row (row.Until i j) = true
is_elementary_row (row.Release i j) = true
is_elementary_row _ = false

-- the places from n on of the rows that pass a test, which may look at the place
abbrev pub places_by : (ℕ → Row → Bool) → ℕ → List Row → List ℕ
places_by p n [] = []
places_by p n (r ∷ rs) = if p n r then n ∷ places_by p (n + 1) rs else places_by p (n + 1) rs

-- an elementary row, or the last of so many
abbrev pub is_elementary_of : ℕ → ℕ → Row → Bool
is_elementary_of count i r = is_elementary_row r || i + 1 == count
