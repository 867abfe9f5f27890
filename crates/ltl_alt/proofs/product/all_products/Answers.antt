use Rattle.std.proofs.Common.{ℕ, ◌-◌, arith, drop, map, subst, sym}
use Rattle.std.specs.List.Sorted.{IsPermutation}
use Rattle.std.proofs.lemmas.List.Sorted.{IsPermutation-trans}
use Rattle.ltl_spec.proofs.Transitions.FactorLaws.{all_products}
use Rattle.ltl_spec.proofs.Transitions.ProductTransitions.{product}
use Rattle.ltl_alt.specs.FinalView.{made_of}
use Rattle.ltl_alt.specs.TransitionView.{table_at}
use Rattle.ltl_alt.proofs.ProductLaws.{moved_consistent, products_step}
use Rattle.ltl_alt.proofs.product.all_products.Goals as goal
use Rattle.ltl_alt.proofs.product.all_products.Goals.{then-list-gt1+in_ok-sort, else-list-gt1}

pub multiply-requires : goal.multiply-requires
multiply-requires g c =
    let T = table_at c.args.basis.now.table.now in
    let h = made_of c.args.finals.now.lists.keys in
    let factors = c.args.factors.now in
    let left = c.factors.left in
    let rest = λ (n : ℕ). all_products T (drop n (map h factors)) in
    let list = c.transitions-list.result.now in
    let before = c.factors.invariant in
    let moved : IsPermutation (rest left) c.if-list-gt1.products.items = elim c.if-list-gt1.branch [
      | then-list-gt1+in_ok-sort w ↦ subst (λ v. IsPermutation (rest left) v.items) (sym w.products-is) (IsPermutation-trans (rest left) c.factors.products.items w.sort.new.transitions.items before.products w.in_ok-sort.ensures.permutation)
      | else-list-gt1 w ↦ subst (λ v. IsPermutation (rest left) v.items) (sym w.products-is) before.products
    ] in
    let step = products_step T h factors left list c.if-list-gt1.products.items c.factors-test.true before.within moved c.transitions-list.ensures in
    record { consistent = moved_consistent (rest (left - 1)) (product list c.if-list-gt1.products.items) step (c.requires.consistent (left - 1)) }

pub factors-preserved : goal.factors-preserved
factors-preserved g c =
    let T = table_at c.args.basis.now.table.now in
    let h = made_of c.args.finals.now.lists.keys in
    let factors = c.args.factors.now in
    let left = c.factors.left in
    let rest = λ (n : ℕ). all_products T (drop n (map h factors)) in
    let list = c.transitions-list.result.now in
    let before = c.factors.invariant in
    let moved : IsPermutation (rest left) c.if-list-gt1.products.items = elim c.if-list-gt1.branch [
      | then-list-gt1+in_ok-sort w ↦ subst (λ v. IsPermutation (rest left) v.items) (sym w.products-is) (IsPermutation-trans (rest left) c.factors.products.items w.sort.new.transitions.items before.products w.in_ok-sort.ensures.permutation)
      | else-list-gt1 w ↦ subst (λ v. IsPermutation (rest left) v.items) (sym w.products-is) before.products
    ] in
    let step = products_step T h factors left list c.if-list-gt1.products.items c.factors-test.true before.within moved c.transitions-list.ensures in
    record {
      within = omega (arith, before.within);
      products = subst (IsPermutation (rest (left - 1))) (sym c.in_ok-multiply.ensures) step;
    }
