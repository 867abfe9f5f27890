use Rattle.std.proofs.Common.{rules, sym, subst}
use Rattle.ltl_spec.specs.Collections.Sets.{IsRising}
use Rattle.ltl_spec.proofs.Collections.SetLaws.{set_of_same}
use Rattle.ltl_spec.proofs.Collections.SortedSets.{sorted_by, sorted_set_itself}
use Rattle.ltl_automaton.proofs.sorting.sort_dedup.Goals as goal

pub returns : goal.returns
returns g c =
    let order = g.met.T.ListOrder.linear in
    sorted_set_itself order _ g.met.T.ListOrder.decides _ _ _ c.sort_unstable_by.ensures.permutation
    (sorted_by order.total (λ p. p) _ c.sort_unstable_by.ensures.sorted (λ a r q k. search rules))
    c.dedup.ensures.filtered

pub returns-then-is_rising : goal.returns-then-is_rising
returns-then-is_rising g c =
    let order = g.met.T.ListOrder.linear in
    let rises = subst (IsRising g.T.ListOrder.order) c.as_slice.ensures.value (c.is_rising.ensures c.if-is_rising.true) in
    sym (set_of_same order c.args.items.now.items rises)
