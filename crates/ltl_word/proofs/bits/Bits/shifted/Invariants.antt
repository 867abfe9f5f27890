use Rattle.std.proofs.Common.{◌≡◌, ◌+◌, ◌<◌, ℕ, length}
use Rattle.std.specs.Prelude.{slice_index}
use Rattle.ltl_word.specs.Rows.{is_set}
use Rattle.ltl_word.proofs.bits.Bits.shifted.Given as goal

abbrev pub invariant-loop-k : goal.invariant-loop-k
invariant-loop-k g l = record {
  long : length l.words.items ≡ l.k;
  before : (k : ℕ) → k < length l.words.items → (j : ℕ) → j < 63 → is_set (slice_index l.words.items k) j ≡ is_set (slice_index l.self k) (j + 1);
  last : (k : ℕ) → k < length l.words.items → k + 1 < length l.self → is_set (slice_index l.words.items k) 63 ≡ is_set (slice_index l.self (k + 1)) 0;
}
