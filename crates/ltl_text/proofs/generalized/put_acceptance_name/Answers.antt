use Rattle.std.proofs.Common.{arith, sym}
use Rattle.ltl_streams.proofs.PrintLaws.{prints_as, prints_then}
use Rattle.ltl_text.proofs.HoaLaws.{some_name}
use Rattle.ltl_text.proofs.generalized.put_acceptance_name.Goals as goal

pub returns-else-sets-eq0 : goal.returns-else-sets-eq0
returns-else-sets-eq0 g c = prints_as (sym (some_name c.args.sets (omega arith))) (prints_then c.put-else-sets-eq0.ensures c.put_number.ensures)
