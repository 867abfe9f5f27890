use Rattle.std.proofs.Common.{◌++◌, length}
use Rattle.std.specs.Prelude.{codes}
use Rattle.ltl_spec.specs.Automata.ClaimText.{cube_text}
use Rattle.ltl_sets.specs.Literals.{cube_of}
use Rattle.ltl_text.specs.Names.{HasNames}
use Rattle.ltl_streams.proofs.PrintLaws.{Lacks}
use Rattle.ltl_text.proofs.TextLaws.{led, texts_of}
use Rattle.ltl_text.proofs.guard.put_guard.Given as goal

abbrev pub invariant-loop-literal : goal.invariant-loop-literal
invariant-loop-literal g l = record {
  named : HasNames (length l.texts) (cube_of l.literal-iterator);
  below : HasNames 256 (cube_of l.literal-iterator);
  text : Lacks g.S.ByteSink.state l.fn.output l.output
      (led (codes " && ") (texts_of l.texts l.literal-iterator) ++ codes ")") (cube_text l.texts l.cube);
}
