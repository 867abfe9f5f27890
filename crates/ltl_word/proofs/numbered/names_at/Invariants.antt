use Rattle.std.proofs.Common.{◌≡◌, ◌++◌, ◌<◌, length, map}
use Rattle.std.specs.List.{AllByRecursion}
use Rattle.ltl_word.specs.LassoView.{letter_of}
use Rattle.ltl_word.proofs.numbered.names_at.Given as goal

abbrev pub invariant-loop-i : goal.invariant-loop-i
invariant-loop-i g l = record {
  within : AllByRecursion (λ i. i < length l.names) l.i-iterator;
  names : map (λ n. n.now) l.letter.items ++ letter_of (map (λ n. n.now) l.names) l.i-iterator ≡ letter_of (map (λ n. n.now) l.names) l.numbers;
}
