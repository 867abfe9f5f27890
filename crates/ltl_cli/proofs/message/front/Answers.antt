use Rattle.std.proofs.Common.{sym}
use Rattle.ltl_words.specs.Tools.{tool_of}
use Rattle.ltl_cli.proofs.MessageLaws.{long_formula, long_word, many_elementary_rows, many_propositions, many_rows}
use Rattle.ltl_cli.proofs.message.front.Goals as goal

pub returns-in-LongFormula-clause-front : goal.returns-in-LongFormula-clause-front
returns-in-LongFormula-clause-front c = rw c.in-LongFormula.is (sym (long_formula (tool_of c.args.tool)))

pub returns-in-LongWord-clause-front : goal.returns-in-LongWord-clause-front
returns-in-LongWord-clause-front c = rw c.in-LongWord.is (sym (long_word (tool_of c.args.tool)))

pub returns-in-TooManyPropositions-clause-front : goal.returns-in-TooManyPropositions-clause-front
returns-in-TooManyPropositions-clause-front c = rw c.in-TooManyPropositions.is (sym (many_propositions (tool_of c.args.tool)))

pub returns-in-TooManyRows-clause-front : goal.returns-in-TooManyRows-clause-front
returns-in-TooManyRows-clause-front c = rw c.in-TooManyRows.is (sym (many_rows (tool_of c.args.tool)))

pub returns-in-TooManyElementaryRows-clause-front : goal.returns-in-TooManyElementaryRows-clause-front
returns-in-TooManyElementaryRows-clause-front c = rw c.in-TooManyElementaryRows.is (sym (many_elementary_rows (tool_of c.args.tool)))
