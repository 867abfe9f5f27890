use Rattle.std.proofs.Common.{◌<◌, arith, length, true, []}
use Rattle.ltl_cli.specs.Translations.{shown_in}
use Rattle.ltl_c.proofs.ArrayLaws.{edges_counted, room_next}
use Rattle.ltl_c.proofs.arrays.edge_count.Goals as goal

pub overflow_add-count : goal.overflow_add-count
overflow_add-count g c =
    let ss = (shown_in c.args.automaton.now).states in
    let below : c.loop-k.k < length ss = omega (arith, c.len-k-end.ensures, c.loop-k-test.true) in
    let room = room_next ss c.loop-k.k (record { accepting = true; edges = [] }) below c.loop-k.count c.edges.result c.loop-k.invariant c.edges.ensures in
    omega (arith, room, edges_counted ss, c.invariant.ensures)
