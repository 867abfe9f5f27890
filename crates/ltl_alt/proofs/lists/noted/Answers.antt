use Rattle.ltl_automaton.proofs.NetLaws.{took}
use Rattle.ltl_alt.proofs.RepeatLaws.{noted_next}
use Rattle.ltl_alt.proofs.lists.noted.Goals as goal

pub right-preserved : goal.right-preserved
right-preserved g c =
    noted_next c.args.left.now _ _ c.right.once.keys c.note_joins.new.once.keys c.q-item.result c.right.invariant (took c.args.right.now c.right.q-index c.q-item.result c.right-test.true c.q-item.is) c.in_ok-note_joins.ensures
