use Rattle.std.proofs.Common.{sym}
use Rattle.ltl_automaton.specs.EdgeView.{edge_of}
use Rattle.ltl_streams.proofs.PrintLaws.{prints_as, prints_then}
use Rattle.ltl_text.proofs.HoaLaws.{edge_pieces}
use Rattle.ltl_text.proofs.states.put_edge.Goals as goal

pub returns : goal.returns
returns g c =
    let target = prints_then c.put-2.ensures (prints_then c.put_number.ensures (prints_then c.put_marks.ensures c.put-3.ensures)) in
    prints_as (sym (edge_pieces (edge_of c.args.edge.now))) (prints_then c.put.ensures (prints_then c.put_literals.ensures target))
