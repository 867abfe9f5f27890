use Rattle.std.proofs.Common.{◌≡◌, ◌+◌, ◌++◌, ◌<◌, arith, length, subst, sym, take}
use Rattle.std.specs.Prelude.{filter_map}
use Rattle.ltl_alt.specs.ProductView.{join_transitions}
use Rattle.ltl_alt.proofs.ProductLaws.{appended_none, appended_some}
use Rattle.ltl_alt.proofs.product.append_joined.Goals as goal
use Rattle.ltl_alt.proofs.product.append_joined.Goals.{in-Some+in_ok-push, in_default}

pub products-preserved : goal.products-preserved
products-preserved g c =
    let one = c.args.one.now in
    let old = c.args.products.now.items in
    let was = c.products.products.items in
    let i = c.products.i in
    let here = c.index.result.now in
    let joined = c.at_once.result in
    let inside : i < length old = omega (arith, c.products-test.true, c.requires) in
    elim c.match-at_once.branch [
      | in-Some+in_ok-push w ↦ subst (λ v. v.items ≡ old ++ filter_map (join_transitions one) (take (i + 1) old)) (sym w.products-is)
          (appended_some one here w.in-Some.joined old was w.push.new.self.items joined i inside c.products.invariant c.index.ensures c.at_once.ensures w.in-Some.is w.in_ok-push.ensures.items)
      | in_default w ↦ subst (λ v. v.items ≡ old ++ filter_map (join_transitions one) (take (i + 1) old)) (sym w.products-is)
          (appended_none one here old was joined i inside c.products.invariant c.index.ensures c.at_once.ensures w.in_default.is)
    ]
