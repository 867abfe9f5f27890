use Rattle.std.proofs.Common.{◌≡◌}
use Rattle.std.specs.Prelude.{replicate}
use Rattle.ltl_word.proofs.bits.Bits.all.Given as goal

abbrev pub invariant-loop : goal.invariant-loop
invariant-loop g l = record {
  alike : l.words.items ≡ replicate l.counter l.word;
}
