use Rattle.std.specs.Prelude.{codes}
use Rattle.ltl_spec.specs.Automata.HoaText.{label_text}
use Rattle.ltl_streams.proofs.PrintLaws.{Lacks}
use Rattle.ltl_text.proofs.TextLaws.{led}
use Rattle.ltl_text.proofs.HoaLaws.{labels_of}
use Rattle.ltl_text.proofs.states.put_literals.Given as goal

abbrev pub invariant-loop-literal : goal.invariant-loop-literal
invariant-loop-literal g l =
    Lacks g.S.ByteSink.state l.fn.output l.output (led (codes "&") (labels_of l.literal-iterator)) (label_text l.cube)
