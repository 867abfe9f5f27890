use Rattle.ltl_alt.specs.TransitionView.{table_at}
use Rattle.ltl_alt.proofs.KeyLaws.{keys_longer}
use Rattle.ltl_alt.proofs.reach.RowSetsSuccessorsRowSetGbaEdgeTransition.prepare.Goals as goal

pub returns-clause-ready : goal.returns-clause-ready
returns-clause-ready g c =
    let n = c.args.self.now in
    (c.requires.0, c.in_ok-self.ensures.finals, keys_longer (table_at n.basis.table.now) n.basis.keep_implied n.finals.lists.keys c.set_transitions.new.self.lists.keys n.keys.states.entries c.in_ok-self.ensures.longer c.requires.2)
