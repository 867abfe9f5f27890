-- The relations of the code.
use Rattle.std.specs.Prelude.{ℕ, ◌+◌, ◌*◌, ◌%◌, ◌^◌, Bool, false, ◌&&◌, nat_lt, nat_eq, length, slice_index_or}
use Rattle.ltl_reduce.specs.declared.relation.Cells as table
use Rattle.ltl_reduce.specs.declared.relation.Relation as made
use Rattle.ltl_reduce.specs.declared.relation.Relation.TheVariants.{Forward, Backward, Across, Back}

-- what stands in a row and a column
abbrev pub cell : table.Cells → ℕ → ℕ → Bool
cell c i j = slice_index_or c.cells.now ((i * c.width % 2 ^ 64 + j) % 2 ^ 64) false

abbrev pub relates : made.Relation → ℕ → ℕ → Bool
relates (Forward numbers count) s t = nat_lt t count && (nat_lt s (length numbers.now) && nat_eq (slice_index_or numbers.now s 0) t)
relates (Backward numbers) s t = nat_lt t (length numbers.now) && nat_eq (slice_index_or numbers.now t 0) s
relates (Across cells stands) s t = nat_lt t (length stands.now) && cell cells s (slice_index_or stands.now t 18446744073709551615)
relates (Back cells stands count) s t = nat_lt t count && cell cells (slice_index_or stands.now s 18446744073709551615) t
