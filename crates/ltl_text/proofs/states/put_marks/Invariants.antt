use Rattle.std.proofs.Common.{◌++◌, map}
use Rattle.std.specs.Prelude.{codes}
use Rattle.std.specs.Fmt.{decimal}
use Rattle.ltl_spec.specs.Automata.GeneralizedText.{marks_text}
use Rattle.ltl_streams.proofs.PrintLaws.{Lacks}
use Rattle.ltl_text.proofs.TextLaws.{led}
use Rattle.ltl_text.proofs.states.put_marks.Given as goal

abbrev pub invariant-loop-number : goal.invariant-loop-number
invariant-loop-number g l =
    Lacks g.S.ByteSink.state l.fn.output l.output (led (codes " ") (map decimal l.number-iterator) ++ codes "}") (marks_text l.marks)
