use Rattle.std.proofs.Common.{rules}
use Rattle.ltl_spec.proofs.Collections.SortedSets.{sorted_by, sorted_set_itself}
use Rattle.ltl_automaton.proofs.sorting.sort_runs_dedup.Goals as goal

pub returns : goal.returns
returns g c =
    let order = g.met.T.ListOrder.linear in
    sorted_set_itself order _ g.met.T.ListOrder.decides _ _ _ c.in_ok-sort_by.ensures.permutation
    (sorted_by order.total (λ p. p) _ c.in_ok-sort_by.ensures.sorted (λ a r q k. search rules))
    c.dedup.ensures.filtered
