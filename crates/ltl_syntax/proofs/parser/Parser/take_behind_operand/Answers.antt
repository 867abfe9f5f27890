use Rattle.ltl_syntax.specs.ParserView.{reader_of}
use Rattle.ltl_syntax.proofs.StateLemmas.{refuses_close}
use Rattle.ltl_syntax.proofs.parser.Parser.take_behind_operand.Goals as goal

pub returns-then-not-branch : goal.returns-then-not-branch
returns-then-not-branch g c =
    refuses_close c.args.self.now c.args.token.kind c.args.token.start c.in_ok-close_bracket-in-Close.field-0 (reader_of c.close_bracket.new.self) c.requires.having c.in-Close.is c.if-not-branch.true
    c.in_ok-close_bracket-in-Close.ensures.reader
