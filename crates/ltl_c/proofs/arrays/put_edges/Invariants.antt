use Rattle.std.proofs.Common.{◌≡◌, map, take}
use Rattle.ltl_automaton.specs.CodedEdges.{edges_in}
use Rattle.ltl_c.specs.Arrays.{edge_row, put_at}
use Rattle.ltl_c.proofs.arrays.put_edges.Given as goal

abbrev pub invariant-loop-i : goal.invariant-loop-i
invariant-loop-i l = l.rows ≡ put_at l.at (map edge_row (take l.i (edges_in l.list))) l.fn.rows
