use Rattle.std.proofs.Common.{◌≡◌, [], length}
use Rattle.ltl_spec.specs.Formulas.Tokens.{items}
use Rattle.ltl_spec.proofs.Formulas.GrammarMachine as machine
use Rattle.ltl_spec.proofs.Formulas.ReaderLaws.{verdict}
use Rattle.ltl_syntax.specs.ParserView.{reader_of}
use Rattle.ltl_syntax.proofs.reader.read.Given as goal

abbrev pub invariant-tokens : goal.invariant-tokens
invariant-tokens g l = record {
  text : l.tokens.text ≡ l.text;
  verdict : verdict (length l.text) l.parser.names (reader_of l.parser) l.tokens.rest ≡ verdict (length l.text) [] (machine.Wanting []) (items l.text);
}

abbrev pub decreases-tokens : goal.decreases-tokens
decreases-tokens g l = length l.tokens.rest
