use Rattle.std.proofs.Common.{◌≡◌, ℕ, ◌<◌, not, nat_eq, length}
use Rattle.std.specs.Prelude.{slice_index}
use Rattle.std.specs.Int.{bit_at}
use Rattle.ltl_word.proofs.bits.Bits.inverted.Given as goal

abbrev pub invariant-loop-k : goal.invariant-loop-k
invariant-loop-k g l = record {
  long : length l.words.items ≡ l.k;
  each : (k : ℕ) → k < length l.words.items → (j : ℕ) → j < 64 → nat_eq (bit_at (slice_index l.words.items k) j) 1 ≡ not (nat_eq (bit_at (slice_index l.self k) j) 1);
}
