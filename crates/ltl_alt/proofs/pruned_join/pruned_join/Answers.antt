use Rattle.std.proofs.Common.{◌≡◌, ◌≤◌, ◌+◌, [], ◌++◌, length, take, sym, ◌∙◌, ap, subst, arith}
use Rattle.std.proofs.lemmas.List.{take_all}
use Rattle.ltl_automaton.proofs.NetLaws.{took}
use Rattle.ltl_alt.specs.StandIns.{AreKept, IsPruned, joins_by_right}
use Rattle.ltl_alt.proofs.PrunedJoinLaws.{grown_more, grown_pruned, grown_ends}
use Rattle.ltl_alt.proofs.pruned_join.pruned_join.Goals.{then-len-max+in_ok-grown+in_ok-kept, else-len-max}
use Rattle.ltl_alt.proofs.pruned_join.pruned_join.Goals as goal

pub right-preserved : goal.right-preserved
right-preserved g c =
    let r = c.args.pruning.now.rule in
    let f = c.args.pruning.now.fulfilment.now in
    let ls = c.args.left.now in
    let ks = c.right.kept.items in
    let once = c.note_joins.new.once.keys in
    let more = took c.args.right.now c.right.q-index c.q-item.result c.right-test.true c.q-item.is in
    let all = joins_by_right ls (take (c.right.q-index + 1) c.args.right.now) in
    let grown : AreKept r f all (ks ++ once) = grown_more r f ls (take c.right.q-index c.args.right.now) _ ks c.right.once.keys once c.q-item.result c.right.invariant more c.in_ok-note_joins.ensures in
    elim c.if-len-max.branch [
      | then-len-max+in_ok-grown+in_ok-kept w ↦
          let items : w.in_ok-grown.grown.items ≡ ks ++ once = w.in_ok-grown.ensures ∙ (λ i. w.as_slice.ensures.value i ++ w.as_slice-then-len-max.ensures i) in
          let pruned : IsPruned r f (ks ++ once) w.in_ok-kept.kept.items = subst (λ ps. IsPruned r f ps w.in_ok-kept.kept.items) items w.in_ok-kept.ensures in
          let none : c.if-len-max.once.keys ≡ [] = ap (λ v. v.keys) w.once-is ∙ ap (λ v. v.keys) w.new-once-then-len-max.ensures in
          subst (λ ps. AreKept r f all (ps ++ c.if-len-max.once.keys)) (sym (ap (λ v. v.items) w.kept-is)) (grown_pruned r f ls all (ks ++ once) w.in_ok-kept.kept.items c.if-len-max.once.keys grown pruned none)
      | else-len-max w ↦
          let same : c.if-len-max.once.keys ≡ once = (let p = w.once-is in cc) in
          subst (λ ps. AreKept r f all (ps ++ c.if-len-max.once.keys)) (sym (ap (λ v. v.items) w.kept-is)) (subst (λ ps. AreKept r f all (ks ++ ps)) (sym same) grown)
    ]

pub returns : goal.returns
returns g c =
    let r = c.args.pruning.now.rule in
    let f = c.args.pruning.now.fulfilment.now in
    let items : c.in_ok-grown-2.grown.items ≡ c.right.kept.items ++ c.right.once.keys = c.in_ok-grown-2.ensures ∙ (λ i. c.as_slice-2.ensures.value i ++ c.as_slice-3.ensures i) in
    let test = c.right-test.false in
    let ended : length c.args.right.now ≤ c.right.q-index = omega arith in
    grown_ends r f c.args.left.now c.args.right.now (c.right.kept.items ++ c.right.once.keys) c.in_ok-pruned.pruned.items
    (subst (λ qs. AreKept r f (joins_by_right c.args.left.now qs) (c.right.kept.items ++ c.right.once.keys)) (take_all c.right.q-index c.args.right.now ended) c.right.invariant)
    (subst (λ ps. IsPruned r f ps c.in_ok-pruned.pruned.items) items c.in_ok-pruned.ensures)
