use Rattle.std.proofs.Common.{sym}
use Rattle.ltl_sets.specs.Literals.{literal_of}
use Rattle.ltl_streams.proofs.PrintLaws.{prints_as, prints_then}
use Rattle.ltl_text.proofs.HoaLaws.{negative_label}
use Rattle.ltl_text.proofs.states.put_literal.Goals as goal

pub returns-else-literal : goal.returns-else-literal
returns-else-literal g c = prints_as (sym (negative_label (literal_of c.args.literal) c.if-literal.false)) (prints_then c.put.ensures c.put_number-else-literal.ensures)
