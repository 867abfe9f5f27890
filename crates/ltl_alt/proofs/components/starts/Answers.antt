use Rattle.std.proofs.Common.{◌++◌, rules, ◌+◌, ◌<◌, ◌∷◌, [], ◌∙◌, ap, arith, inl, inr, length, sym, subst}
use Rattle.std.proofs.lemmas.List.{length-append}
use Rattle.ltl_alt.specs.ComponentView.{start_of}
use Rattle.ltl_alt.specs.MemoView.{IsListAt}
use Rattle.ltl_alt.specs.ConjunctTableView.{conjunct_of}
use Rattle.ltl_alt.proofs.JoinLaws.{list_at_longer}
use Rattle.ltl_alt.proofs.MapLaws.{longer_same, longer_trans}
use Rattle.ltl_alt.proofs.NeedsLaws.{same_or_other}
use Rattle.ltl_alt.proofs.MapLaws.{at_last, at_before}
use Rattle.ltl_alt.proofs.components.starts.Goals as goal

pub conjuncts-init : goal.conjuncts-init
conjuncts-init g c = record {
  longer = longer_same c.args.memo.now.lists.keys;
  joins = search rules;
  count = ap length c.in_ok-starts.ensures.items;
  each = λ j l. absurd (omega arith);
}

pub conjuncts-preserved : goal.conjuncts-preserved
conjuncts-preserved g c =
    let conjuncts = c.args.conjuncts.now.lists.items in
    let old = c.conjuncts.memo.lists.keys in
    let new = c.number.new.self.lists.keys in
    let before = c.conjuncts.starts.items in
    let longer = c.in_ok-number.ensures.longer in
    let count = c.conjuncts.invariant.count in
    let pairs = c.in_ok-pairs.ensures.items ∙ c.pairs.ensures in
    record {
      longer = longer_trans c.args.memo.now.lists.keys old new c.conjuncts.invariant.longer longer;
      joins = c.in_ok-number.ensures.joins ∙ c.conjuncts.invariant.joins;
      count = ap length c.in_ok-push.ensures.items ∙ length-append before (c.in_ok-number.number ∷ []) ∙ ap (λ n. n + 1) count;
      each = λ j l. subst (λ xs. IsListAt new (conjunct_of conjuncts j) (start_of xs j)) (sym c.in_ok-push.ensures.items) (elim (same_or_other j c.conjuncts.k) [
        | inl e ↦ subst (λ i. IsListAt new (conjunct_of conjuncts i) (start_of (before ++ c.in_ok-number.number ∷ []) i)) (sym e)
            (subst (IsListAt new (conjunct_of conjuncts c.conjuncts.k)) (sym (at_last before c.in_ok-number.number 0 c.conjuncts.k (sym count))) (subst (λ ps. IsListAt new ps c.in_ok-number.number) pairs c.in_ok-number.ensures.number))
        | inr n ↦
            let m : j < length before = omega (arith, l, n, count) in
            let o : j < c.conjuncts.k = omega (arith, l, n) in
            subst (IsListAt new (conjunct_of conjuncts j)) (sym (at_before before (c.in_ok-number.number ∷ []) 0 j m)) (list_at_longer old new (conjunct_of conjuncts j) (start_of before j) longer (c.conjuncts.invariant.each j o))
      ]);
    }

pub returns-clause-starts : goal.returns-clause-starts
returns-clause-starts g c =
    let long = c.len-k-end.ensures in
    let past = c.conjuncts-test.false in
    let test = c.conjuncts.auto.k-end in
    let count = c.conjuncts.invariant.count in
    record {
      count = omega arith;
      each = λ j l. c.conjuncts.invariant.each j (omega (arith, l));
    }
