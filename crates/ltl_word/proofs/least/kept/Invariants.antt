use Rattle.std.proofs.Common.{◌≡◌, ◌+◌, ◌<◌, ◌≤◌, ℕ, []}
use Rattle.std.specs.Prelude.{slice_index_or}
use Rattle.ltl_word.proofs.least.kept.Given as goal

abbrev pub invariant-letters : goal.invariant-letters
invariant-letters l = record {
  most : l.keep ≤ l.stem;
  again : (k : ℕ) → l.keep ≤ k → k < l.stem → slice_index_or l.letters k [] ≡ slice_index_or l.letters (k + l.d) [];
}

abbrev pub decreases-letters : goal.decreases-letters
decreases-letters l = l.keep
