use Rattle.ltl_streams.proofs.PrintLaws.{prints_as, prints_then}
use Rattle.ltl_text.proofs.states.put_state.Goals as goal

pub returns : goal.returns
returns g c = prints_then c.put.ensures (prints_then c.put_number.ensures (prints_then (prints_as c.state_end.ensures c.put-2.ensures) c.put_edges.ensures))
