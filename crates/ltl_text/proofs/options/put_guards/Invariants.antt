use Rattle.std.proofs.Common.{◌<◌, length}
use Rattle.std.specs.Prelude.{codes, drop, All}
use Rattle.ltl_automaton.specs.CodedEdges.{edges_in}
use Rattle.ltl_text.specs.Options.{guards_text}
use Rattle.ltl_streams.proofs.PrintLaws.{Lacks}
use Rattle.ltl_text.proofs.TextLaws.{led, guards_of}
use Rattle.ltl_text.proofs.options.put_guards.Given as goal

abbrev pub invariant-loop-place : goal.invariant-loop-place
invariant-loop-place g l = record {
  within : All (λ p. p < length l.edges.coded.now) l.others;
  text : Lacks g.S.ByteSink.state l.fn.output l.output
      (led (codes " || ") (guards_of l.texts (edges_in l.edges) (drop l.place-index l.others))) (guards_text l.texts (edges_in l.edges) l.places);
}
