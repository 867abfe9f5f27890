use Rattle.std.proofs.Common.{◌≡◌, ◌+◌, ◌-◌, ◌<◌, ◌≤◌, ◌∙◌, ap, arith, drop, length, map, subst, sym}
use Rattle.ltl_spec.proofs.Collections.MemberLaws.{map_length}
use Rattle.ltl_spec.proofs.Transitions.FactorLaws.{product_size}
use Rattle.ltl_alt.specs.FinalView.{made_of}
use Rattle.ltl_alt.proofs.ProductLaws.{mapped_at, size_at_least}
use Rattle.ltl_alt.proofs.product.combinations.Goals as goal

pub factors-preserved : goal.factors-preserved
factors-preserved g c =
    let h = made_of c.args.finals.now.lists.keys in
    let factors = c.args.factors.now in
    let tss = map h factors in
    let within = c.factors.invariant.within in
    let some = c.factors-test.true in
    let left = c.factors.left - 1 in
    let inside : left < length factors = omega (arith, within, some) in
    let long = map_length h factors in
    let also : left < length tss = omega (arith, inside, long) in
    let next : c.factors.left ≡ left + 1 = omega (arith, some) in
    let least = size_at_least tss left c.factors.count (length c.transitions-size.result.now) also (subst (λ n. c.factors.count ≤ product_size (drop n tss)) next c.factors.invariant.count) (ap length (c.transitions-size.ensures ∙ sym (mapped_at h factors left inside))) in
    let most = c.saturating_mul-count.ensures in
    record {
      within = omega (arith, within);
      count = grind (arith, least, most);
    }
