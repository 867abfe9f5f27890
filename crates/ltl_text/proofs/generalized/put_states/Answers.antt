use Rattle.std.proofs.Common.{◌<◌, arith, length}
use Rattle.ltl_spec.specs.Automata.GeneralizedText.{marked_state_lines}
use Rattle.ltl_streams.proofs.PrintLaws.{lacks_all, lacks_step, prints_as, prints_nothing}
use Rattle.ltl_text.proofs.HoaLaws.{marked_state_is, states_begin, states_go_on}
use Rattle.ltl_text.proofs.generalized.put_states.Goals as goal

pub loop-k-init : goal.loop-k-init
loop-k-init g c = lacks_step (lacks_all _ _) _ (states_begin (marked_state_lines c.args.automaton.now) (length c.args.automaton.now.states)) (prints_nothing _)

pub loop-k-preserved : goal.loop-k-preserved
loop-k-preserved g c =
    let A = c.args.automaton.now in
    let n = length A.states in
    let lt : c.loop-k.k < n = omega arith in
    let e = marked_state_is A c.loop-k.k _ c.edges.ensures.edges in
    lacks_step c.loop-k.invariant _ (states_go_on (marked_state_lines A) n c.loop-k.k lt) (prints_as e c.put_state.ensures)
