-- Sets, stored by column: for each number, the indices of the sets that have it.
use Rattle.std.specs.Prelude.{◌≡◌, ℕ, ◌<◌, ◌≤◌, List, [], length, slice_index_or}
use Rattle.std.specs.Ordering.{nat_cmp}
use Rattle.ltl_spec.specs.Collections.Sets.{Has, has}

-- the numbers that are met in the sets, and the column of each number
pub record ColumnTable : Type 0 where
  pub met : List ℕ
  pub columns : List (List ℕ)

-- the set with this index, or the empty set
abbrev pub set_at : List (List ℕ) → ℕ → List ℕ
set_at sets j = slice_index_or sets j []

-- the column of a number
abbrev pub column_at : ColumnTable → ℕ → List ℕ
column_at c e = set_at c.columns e

-- each member of the set is one of the other
abbrev pub IsMet : List ℕ → List ℕ → Type 0
IsMet met set = (e : ℕ) → Has set e → Has met e

-- a column has the indices of the sets that have its number
pub record AreColumnsOf (sets : List (List ℕ)) (c : ColumnTable) : Type 0 where
  pub each : (e j : ℕ) → has nat_cmp j (column_at c e) ≡ has nat_cmp e (set_at sets j)
  pub met : (e j : ℕ) → Has (set_at sets j) e → Has c.met e

-- the members are less than this number
abbrev pub IsWide : List ℕ → ℕ → Type 0
IsWide met width = (e : ℕ) → Has met e → e < width

-- there is a column for each number below the width, and each column has the indices of the sets that have its number
pub record AreFilled (sets : List (List ℕ)) (width : ℕ) (columns : List (List ℕ)) : Type 0 where
  pub long : width ≤ length columns
  pub each : (e j : ℕ) → e < length columns → has nat_cmp j (set_at columns e) ≡ has nat_cmp e (set_at sets j)
