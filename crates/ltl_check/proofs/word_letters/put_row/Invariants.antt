use Rattle.std.proofs.Common.{◌≡◌, ◌<◌, ◌≤◌, ℕ, length}
use Rattle.ltl_word.specs.Rows.{bit_of}
use Rattle.ltl_check.specs.WordLetters.{letter_in, put_if}
use Rattle.ltl_check.proofs.word_letters.put_row.Given as goal

abbrev pub invariant-loop-i : goal.invariant-loop-i
invariant-loop-i g l = record {
  long : length l.letters.items ≡ length l.fn.letters.items;
  done : (j : ℕ) → j < l.i → letter_in l.letters.items j ≡ put_if (bit_of l.row j) l.p (letter_in l.fn.letters.items j);
  left : (j : ℕ) → l.i ≤ j → letter_in l.letters.items j ≡ letter_in l.fn.letters.items j;
}
