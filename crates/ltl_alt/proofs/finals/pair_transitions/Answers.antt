use Rattle.std.proofs.Common.{◌∙◌}
use Rattle.ltl_spec.proofs.Transitions.SortedTransitions.{sorted_transitions}
use Rattle.ltl_alt.specs.TransitionView.{table_at}
use Rattle.ltl_alt.proofs.finals.pair_transitions.Goals as goal

pub returns : goal.returns
returns g c =
    let b = c.args.basis.now in
    c.in_ok-transitions.ensures.items ∙ c.as_slice.ensures.value
    ∙ sorted_transitions (table_at b.table.now) b.keep_implied c.args.pairs.now c.in_ok-left.left.items c.sort.new.transitions.items c.requires.once c.in_ok-left.ensures c.in_ok-sort.ensures.permutation c.in_ok-sort.ensures.sorted
