use Rattle.std.proofs.Common.{◌++◌, ◌<◌, length, map}
use Rattle.std.specs.Prelude.{codes}
use Rattle.std.specs.List.{AllByRecursion}
use Rattle.ltl_spec.specs.Words.LassoText.{letter_text}
use Rattle.ltl_streams.proofs.PrintLaws.{Lacks}
use Rattle.ltl_word.specs.LassoView.{letter_of}
use Rattle.ltl_word.proofs.TextLaws.{led}
use Rattle.ltl_word.proofs.printing.put_letter.Given as goal

abbrev pub invariant-loop-place : goal.invariant-loop-place
invariant-loop-place g l = record {
  within : AllByRecursion (λ i. i < length l.names) l.place-iterator;
  text : Lacks g.S.ByteSink.state l.fn.out l.out (led l.between (codes ",") (letter_of (map (λ n. n.items) l.names) l.place-iterator) ++ codes "}") (letter_text (letter_of (map (λ n. n.items) l.names) l.letter));
}
