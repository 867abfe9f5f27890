use Rattle.std.proofs.Common.{◌∙◌, not, subst}
use Rattle.std.specs.List.{filter}
use Rattle.ltl_alt.specs.StandIns.{AreAmong, AreSpares, is_replaced}
use Rattle.ltl_alt.proofs.PruneLaws.{left_pruned, nothing_pruned}
use Rattle.ltl_alt.proofs.prune.pruned_safely.Goals as goal

pub returns-then-is_empty : goal.returns-then-is_empty
returns-then-is_empty g c = nothing_pruned c.args.fulfilment.now c.args.counted.now c.args.pairs.items

pub returns : goal.returns
returns g c =
    let f = c.args.fulfilment.now in
    let ps = c.args.pairs.items in
    let roots = c.in_ok-roots.roots.items in
    let chosen = c.in_ok-smaller.smaller.items in
    let ss = c.in_ok-spares.spares.items in
    left_pruned f c.args.counted.now roots ps chosen c.in_ok-kept.kept.items ss c.in_ok-roots.ensures
    (subst (λ xs. AreAmong xs chosen) c.as_slice.ensures.value c.in_ok-smaller.ensures)
    (subst (λ xs. AreSpares f xs chosen ss) c.as_slice-2.ensures.value (subst (λ xs. AreSpares f c.as_slice-2.result.now xs ss) c.as_slice-3.ensures.value c.in_ok-spares.ensures))
    (c.in_ok-kept.ensures ∙ (λ i. filter (λ p. not (is_replaced ((c.in_ok-lookup.ensures ∙ c.as_slice-4.ensures.value) i) p)) (c.as_slice-5.ensures.value i)))
