use Rattle.std.proofs.Common.{◌≤◌, arith, map, subst}
use Rattle.ltl_spec.proofs.Transitions.FactorLaws.{product_size}
use Rattle.ltl_alt.specs.FinalView.{made_of}
use Rattle.ltl_alt.proofs.ProductLaws.{numbers_inside, set_count}
use Rattle.ltl_alt.proofs.finals.Finals.transitions_at_least.Goals as goal

pub factors-requires-clause-inside : goal.factors-requires-clause-inside
factors-requires-clause-inside g c =
    let b = c.args.basis.now in
    numbers_inside b.conjuncts.owners.items b.conjuncts.lists.items c.args.state.now c.in-Some.all c.requires.basis.conjuncts.rows.owner_count c.in-Some.ensures.0

pub returns-clause-least : goal.returns-clause-least
returns-clause-least g c =
    let b = c.args.basis.now in
    let new = c.factors.new.self.lists.keys in
    let count = set_count b.table.now b.keep_implied b.pruning.rule b.pruning.fulfilment.now b.conjuncts.made b.conjuncts.owners.items b.conjuncts.lists.items b.conjuncts.dependencies.items b.conjuncts.links.items c.requires.basis c.args.state.now c.in-Some.all
    c.invariant.ensures.rising c.in-Some.ensures.1 c.in-Some.ensures.0 (map (made_of new) c.in_ok-factors.factors.items) c.in_ok-factors.ensures.factors.1 in
    let least = subst (λ fs. c.combinations.result ≤ product_size (map (made_of new) fs)) c.as_slice.ensures.value c.combinations.ensures in
    omega (arith, count, least)
