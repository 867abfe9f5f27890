-- Lists of sets, read by number: for each number, the indices of the sets that have it.
use Rattle.std.specs.Prelude.{◌≡◌, ℕ, ◌+◌, ◌*◌, ◌<◌, false, List, [], slice_index, slice_index_or, nat_eq}
use Rattle.std.specs.Int.{bit_at}
use Rattle.std.specs.Ordering.{nat_cmp}
use Rattle.ltl_spec.specs.Collections.Sets.{Has, has}

-- the numbers with byte k of each set; bit i of a byte is number 8 * k + i
abbrev pub AreBytes : List (List ℕ) → ℕ → List ℕ → Type 0
AreBytes sets k bytes = (i j : ℕ) → i < 8 → nat_eq (bit_at (slice_index bytes j) i) 1 ≡ has nat_cmp (8 * k + i) (slice_index_or sets j [])

-- the 64 bytes from 64 * part on
abbrev pub IsPart : List ℕ → ℕ → List ℕ → Type 0
IsPart bytes part lanes = (j : ℕ) → j < 64 → slice_index lanes j ≡ slice_index bytes (64 * part + j)

-- the column has the indices of the bytes with bit i
abbrev pub AreIndices : List ℕ → ℕ → List ℕ → Type 0
AreIndices bytes i column = (j : ℕ) → has nat_cmp j column ≡ nat_eq (bit_at (slice_index bytes j) i) 1

-- none of the bytes has bit i
abbrev pub HaveNone : List ℕ → ℕ → Type 0
HaveNone bytes i = (j : ℕ) → nat_eq (bit_at (slice_index bytes j) i) 1 ≡ false

-- each member of each set is in this one
abbrev pub AreMet : List (List ℕ) → List ℕ → Type 0
AreMet sets met = (e j : ℕ) → Has (slice_index_or sets j []) e → Has met e

-- for each of the eight numbers from 8 * k on, the indices of the sets that have it
abbrev pub IsOctet : List (List ℕ) → ℕ → List (List ℕ) → Type 0
IsOctet sets k columns = (i j : ℕ) → i < 8 → has nat_cmp j (slice_index_or columns i []) ≡ has nat_cmp (8 * k + i) (slice_index_or sets j [])
