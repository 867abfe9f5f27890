-- The shortest cycle and the shortest stem of a word.
use Rattle.std.specs.Prelude.{◌≡◌, ◌≢◌, ℕ, ◌+◌, ◌-◌, ◌%◌, ◌<◌, ◌≤◌, List, [], length, slice_index_or}

-- the letters are the first d of them, over and over
abbrev pub Repeats : List (List ℕ) → ℕ → Type 0
Repeats rows d = (length rows % d ≡ 0) × ((i : ℕ) → i < length rows → slice_index_or rows i [] ≡ slice_index_or rows (i % d) [])

-- the letters repeat the first d, and no fewer
pub record IsShortest (rows : List (List ℕ)) (d : ℕ) : Type 0 where
  pub some : 0 < d
  pub most : d ≤ length rows
  pub earlier : (k : ℕ) → 0 < k → k < d → ¬ (Repeats rows k)
  pub here : d < length rows → Repeats rows d

-- the letters of the stem behind the first `keep` come again d places later, and the one before doesn't
pub record IsKept (rows : List (List ℕ)) (stem d keep : ℕ) : Type 0 where
  pub most : keep ≤ stem
  pub again : (k : ℕ) → keep ≤ k → k < stem → slice_index_or rows k [] ≡ slice_index_or rows (k + d) []
  pub differs : 0 < keep → slice_index_or rows (keep - 1) [] ≢ slice_index_or rows (keep - 1 + d) []
