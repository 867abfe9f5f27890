use Rattle.std.proofs.Common.{◌≡◌, ◌%◌, ◌<◌, ℕ, []}
use Rattle.std.specs.Prelude.{slice_index_or}
use Rattle.ltl_word.proofs.least.repeats.Given as goal

abbrev pub invariant-loop-i : goal.invariant-loop-i
invariant-loop-i l = (j : ℕ) → j < l.i → slice_index_or l.cycle j [] ≡ slice_index_or l.cycle (j % l.d) []
