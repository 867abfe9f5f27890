use Rattle.std.proofs.Common.{◌<◌, arith, length, true, []}
use Rattle.ltl_spec.specs.Automata.Automaton.{State}
use Rattle.ltl_c.specs.declared.rows.StateRow.{StateRow}
use Rattle.ltl_cli.specs.Translations.{shown_in}
use Rattle.ltl_c.proofs.ArrayLaws.{edges_put, end_next, room_next, state_put}
use Rattle.ltl_c.proofs.arrays.put_states.Goals as goal

pub put_edges-at-requires : goal.put_edges-at-requires
put_edges-at-requires g c =
    let ss = (shown_in c.args.automaton.now).states in
    let below : c.loop-k.k < length ss = omega (arith, c.len-k-end.ensures, c.loop-k-test.true) in
    omega (arith, room_next ss c.loop-k.k (record { accepting = true; edges = [] }) below c.loop-k.at c.edges.result c.loop-k.invariant.at c.edges.ensures, c.requires.edges_fit, c.loop-k.auto.edges)

pub loop-k-preserved : goal.loop-k-preserved
loop-k-preserved g c =
    let ss = (shown_in c.args.automaton.now).states in
    let none : State = record { accepting = true; edges = [] } in
    let below : c.loop-k.k < length ss = omega (arith, c.len-k-end.ensures, c.loop-k-test.true) in
    let row : StateRow = record { first_edge = c.loop-k.at; accepting = c.accepting.result } in
    record {
      at = end_next ss c.loop-k.k none below c.loop-k.at c.put_edges-at.result c.edges.result c.loop-k.invariant.at c.put_edges-at.ensures.end c.edges.ensures;
      states = state_put ss c.loop-k.k none below c.args.states.now c.loop-k.states c.requires.states_fit c.loop-k.invariant.states row
          (λ i. let r : StateRow = record { first_edge = c.loop-k.invariant.at i; accepting = c.accepting.ensures i } in r);
      edges = edges_put ss c.loop-k.k none below c.args.edges.now c.loop-k.edges c.put_edges-at.new.rows c.loop-k.at c.edges.result c.loop-k.invariant.edges c.loop-k.invariant.at c.put_edges-at.ensures.rows c.edges.ensures;
    }
