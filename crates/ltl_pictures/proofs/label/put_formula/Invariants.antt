use Rattle.std.proofs.Common.{length, map, string_bytes}
use Rattle.ltl_sets.specs.Literals.{cube_of}
use Rattle.ltl_streams.proofs.PrintLaws.{Lacks}
use Rattle.ltl_text.specs.Names.{HasNames}
use Rattle.ltl_text.proofs.TextLaws.{led}
use Rattle.ltl_pictures.specs.DotText.{and_text, formula_text}
use Rattle.ltl_pictures.proofs.PutLaws.{literals_of}
use Rattle.ltl_pictures.proofs.label.put_formula.Given as goal

abbrev pub invariant-loop-literal : goal.invariant-loop-literal
invariant-loop-literal g l = record {
  named : HasNames (length l.names) (cube_of l.literal-iterator);
  text : Lacks g.S.ByteSink.state l.fn.out l.out
      (led (and_text l.red) (literals_of (map string_bytes l.names) l.literal-iterator)) (formula_text (map string_bytes l.names) l.red l.cube);
}
