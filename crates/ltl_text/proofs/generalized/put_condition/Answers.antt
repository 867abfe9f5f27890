use Rattle.ltl_streams.proofs.PrintLaws.{prints_then}
use Rattle.ltl_text.proofs.generalized.put_condition.Goals as goal

pub returns : goal.returns
returns g c = prints_then c.put.ensures (prints_then c.put_acceptance_name.ensures (prints_then c.put-2.ensures (prints_then c.put_acceptance.ensures c.put-3.ensures)))
