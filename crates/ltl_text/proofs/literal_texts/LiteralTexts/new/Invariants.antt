use Rattle.std.proofs.Common.{◌≡◌, ◌<◌, ℕ, length, slice_index_or}
use Rattle.ltl_text.specs.declared.literal_texts.Signed.{Signed}
use Rattle.ltl_text.specs.NameLists.{names_in}
use Rattle.ltl_text.specs.Prepared.{AreLiterals}
use Rattle.ltl_text.proofs.literal_texts.LiteralTexts.new.Given as goal

abbrev pub invariant-loop-i : goal.invariant-loop-i
invariant-loop-i g l = record {
  count : length l.texts.items ≡ l.i;
  literals : (p : ℕ) (d : Signed) → p < length l.texts.items → AreLiterals (names_in l.names) p (slice_index_or l.texts.items p d);
}
