use Rattle.ltl_streams.proofs.PrintLaws.{prints_then}
use Rattle.ltl_text.proofs.generalized.put_set.Goals as goal

pub returns : goal.returns
returns g c = prints_then c.put.ensures (prints_then c.put_number.ensures c.put-2.ensures)
