use Rattle.std.proofs.Common.{◌≡◌, ◌++◌, ◌<◌, length, map}
use Rattle.std.specs.List.{AllByRecursion}
use Rattle.ltl_word.specs.LassoView.{letter_of}
use Rattle.ltl_word.proofs.names.push_names.Given as goal

abbrev pub invariant-loop-place : goal.invariant-loop-place
invariant-loop-place g l = record {
  within : AllByRecursion (λ i. i < length l.names) l.place-iterator;
  names : map (λ n. n.now) l.list.items ++ letter_of (map (λ n. n.items) l.names) l.place-iterator ≡ map (λ n. n.now) l.fn.list.items ++ letter_of (map (λ n. n.items) l.names) l.letter;
}
