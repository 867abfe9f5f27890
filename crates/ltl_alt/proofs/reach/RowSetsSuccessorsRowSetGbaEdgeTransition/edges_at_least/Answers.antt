use Rattle.std.proofs.Common.{Result, Ok, Err, sym, subst}
use Rattle.std.specs.Prelude.{OnOk}
use Rattle.ltl_alt.specs.BasisView.{IsBasis}
use Rattle.ltl_alt.specs.TransitionView.{table_at}
use Rattle.ltl_alt.proofs.KeyLaws.{keys_longer}
use Rattle.ltl_alt.proofs.reach.RowSetsSuccessorsRowSetGbaEdgeTransition.edges_at_least.Goals as goal

on_both : {T E : Type 0} (r : Result T E) (P Q R : Type 0) → OnOk r P → OnOk r Q → (P → Q → R) → OnOk r R
on_both (Ok v) P Q R p q f = f p q
on_both (Err e) P Q R p q f = tt

pub returns-clause-ready : goal.returns-clause-ready
returns-clause-ready g c =
    let n = c.make_room.new.self in
    on_both c.transitions_at_least.result _ _ _ c.transitions_at_least.ensures.finals c.transitions_at_least.ensures.longer
    (λ finals longer. (subst IsBasis (sym c.in_ok-make_room.ensures.basis) c.requires.0, finals, keys_longer (table_at n.basis.table.now) n.basis.keep_implied n.finals.lists.keys c.transitions_at_least.new.self.lists.keys n.keys.states.entries longer c.in_ok-make_room.ensures.keys))
