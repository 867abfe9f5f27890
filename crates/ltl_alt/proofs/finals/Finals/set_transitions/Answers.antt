use Rattle.std.proofs.Common.{◌≤◌, ◌∙◌, arith, drop, map, sym, subst}
use Rattle.std.specs.List.Sorted.{IsPermutation}
use Rattle.ltl_spec.proofs.Transitions.FactorLaws.{all_products, product_size}
use Rattle.ltl_alt.specs.FinalView.{made_of}
use Rattle.ltl_alt.specs.ProductView.{AreConsistent}
use Rattle.ltl_alt.specs.TransitionView.{table_at}
use Rattle.ltl_alt.proofs.ProductLaws.{no_transitions, numbers_inside, set_consistent, set_count, set_sorted}
use Rattle.ltl_alt.proofs.finals.Finals.set_transitions.Goals as goal

pub returns-in_default-clause-transitions : goal.returns-in_default-clause-transitions
returns-in_default-clause-transitions g c =
    let b = c.args.basis.now in
    c.new.ensures.items ∙ sym (no_transitions b.table.now b.keep_implied b.conjuncts.made c.args.state.now c.requires.basis.table c.requires.basis.all c.in_default.ensures)

pub factors-requires-clause-inside : goal.factors-requires-clause-inside
factors-requires-clause-inside g c =
    let b = c.args.basis.now in
    numbers_inside b.conjuncts.owners.items b.conjuncts.lists.items c.args.state.now c.in-Some.all c.requires.basis.conjuncts.rows.owner_count c.in-Some.ensures.0

pub returns-then-combinations-most-clause-large : goal.returns-then-combinations-most-clause-large
returns-then-combinations-most-clause-large g c = λ _.
    let b = c.args.basis.now in
    let new = c.factors.new.self.lists.keys in
    let count = set_count b.table.now b.keep_implied b.pruning.rule b.pruning.fulfilment.now b.conjuncts.made b.conjuncts.owners.items b.conjuncts.lists.items b.conjuncts.dependencies.items b.conjuncts.links.items c.requires.basis c.args.state.now c.in-Some.all
    c.invariant.ensures.rising c.in-Some.ensures.1 c.in-Some.ensures.0 (map (made_of new) c.in_ok-factors.factors.items) c.in_ok-factors.ensures.factors.1 in
    let least = subst (λ fs. c.combinations.result ≤ product_size (map (made_of new) fs)) c.as_slice.ensures.value c.combinations.ensures in
    omega (arith, count, least, c.if-combinations-most.true)

pub all_products-requires-clause-consistent : goal.all_products-requires-clause-consistent
all_products-requires-clause-consistent g c = λ k.
    let b = c.args.basis.now in
    let new = c.factors.new.self.lists.keys in
    subst (λ fs. AreConsistent (all_products (table_at b.table.now) (drop k (map (made_of new) fs)))) (sym c.as_slice-2.ensures.value)
    (set_consistent b.table.now b.keep_implied b.pruning.rule b.pruning.fulfilment.now b.conjuncts.made b.conjuncts.owners.items b.conjuncts.lists.items b.conjuncts.dependencies.items b.conjuncts.links.items c.requires.basis c.args.state.now c.in-Some.all
    c.invariant.ensures.rising c.in-Some.ensures.1 c.in-Some.ensures.0 (map (made_of new) c.in_ok-factors.factors.items) c.in_ok-factors.ensures.factors.1 k)

pub returns-clause-transitions : goal.returns-clause-transitions
returns-clause-transitions g c =
    let b = c.args.basis.now in
    let new = c.factors.new.self.lists.keys in
    set_sorted b.table.now b.keep_implied b.pruning.rule b.pruning.fulfilment.now b.conjuncts.made b.conjuncts.owners.items b.conjuncts.lists.items b.conjuncts.dependencies.items b.conjuncts.links.items c.requires.basis c.args.state.now c.in-Some.all
    c.invariant.ensures.rising c.in-Some.ensures.1 c.in-Some.ensures.0 (map (made_of new) c.in_ok-factors.factors.items) c.in_ok-factors.ensures.factors.1 c.in_ok-products.products.items c.sort.new.transitions.items
    (subst (λ fs. IsPermutation (all_products (table_at b.table.now) (map (made_of new) fs)) c.in_ok-products.products.items) c.as_slice-2.ensures.value c.in_ok-products.ensures) c.in_ok-sort.ensures.permutation c.in_ok-sort.ensures.sorted
