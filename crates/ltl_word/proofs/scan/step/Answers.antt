use Rattle.std.proofs.Common.{◌+◌}
use Rattle.ltl_word.proofs.scan.step.Goals as goal

pub returns-in-Letter-clause-inside : goal.returns-in-Letter-clause-inside
returns-in-Letter-clause-inside g c = c.at_letter.ensures.inside (c.args.at + 1)

pub returns-in-InWord-clause-inside : goal.returns-in-InWord-clause-inside
returns-in-InWord-clause-inside g c = c.in_word.ensures.inside (c.args.at + 1)
