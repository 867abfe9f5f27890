use Rattle.std.proofs.Common.{ap, subst, sym, ◌+◌, ◌≤◌, length, slice_set}
use Rattle.std.proofs.lemmas.List.{length-map}
use Rattle.ltl_spec.proofs.Collections.FoundLaws.{index_there}
use Rattle.ltl_automaton.specs.CodedEdges.{edges_in, labelled_edge_of}
use Rattle.ltl_automaton.specs.EdgeView.{edge_of}
use Rattle.ltl_c.specs.Arrays.{edge_row}
use Rattle.ltl_c.proofs.ArrayLaws.{next_row}
use Rattle.ltl_c.proofs.arrays.put_edges.Goals as goal

pub loop-i-preserved : goal.loop-i-preserved
loop-i-preserved c =
    let list = c.args.list in
    let long = length-map list.coded.now (labelled_edge_of list.labels) in
    let e = edge_of c.get.result in
    let there = index_there (edges_in list) c.loop-i.i e e c.get.ensures in
    next_row edge_row c.args.at c.loop-i.i (edges_in list) e c.args.rows.now c.loop-i.rows _ (subst (λ n. c.args.at + n ≤ length c.args.rows.now) (sym long) c.requires) there.0 there.1
    c.loop-i.invariant (ap (λ r. slice_set c.loop-i.rows (c.args.at + c.loop-i.i) r) c.edge_row.ensures)
