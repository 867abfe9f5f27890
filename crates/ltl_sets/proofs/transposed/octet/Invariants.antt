use Rattle.std.proofs.Common.{◌<◌, ℕ, [], slice_index_or}
use Rattle.ltl_sets.specs.Transposed.{AreIndices}
use Rattle.ltl_sets.proofs.transposed.octet.Given as goal

abbrev pub invariant-numbers : goal.invariant-numbers
invariant-numbers l = (i : ℕ) → i < l.i → AreIndices l.bytes i (slice_index_or l.columns i [])
