use Rattle.std.proofs.Common.{◌≡◌, ℕ, ◌<◌, ◌≤◌, ◌∷◌, ◌++◌, [], ◌∙◌, ap, arith, length, sym, subst, slice_index_or}
use Rattle.std.specs.List.{remove}
use Rattle.ltl_spec.specs.Collections.Sets.{Has, set_of}
use Rattle.ltl_spec.specs.Transitions.Pairs.{pair_cmp, empty_pair, join}
use Rattle.ltl_spec.proofs.Transitions.ConjunctJoins.{join_of}
use Rattle.ltl_spec.proofs.Transitions.SameJoins.{AreSound, sound_join, sound_some}
use Rattle.ltl_alt.specs.ComponentView.{start_of}
use Rattle.ltl_alt.specs.MemoView.{IsJoin, IsListAt}
use Rattle.ltl_alt.specs.ConjunctTableView.{conjunct_of}
use Rattle.ltl_alt.specs.StandIns.{IsKeptBy, IsListed, StandsFor}
use Rattle.ltl_alt.specs.TransitionView.{table_at}
use Rattle.ltl_alt.proofs.ComponentLaws.{joined_on}
use Rattle.ltl_alt.proofs.JoinLaws.{components_longer}
use Rattle.ltl_alt.proofs.JoinOrderLaws.{at_place, join_same, left_fewer, left_there, mapped_each, order_begins, order_ends, order_step, pushed_cases, taken_there}
use Rattle.ltl_alt.proofs.MapLaws.{longer_same, longer_there, longer_trans, longer_within}
use Rattle.ltl_alt.proofs.StandInLaws.{stands_in, tests_fit}
use Rattle.ltl_alt.proofs.components.Components.last.Goals as goal

pub joins-init : goal.joins-init
joins-init g c =
    let b = c.args.basis.now in
    let conjunct = conjunct_of b.conjuncts.lists.items in
    let lists = c.args.self.now.memo.lists.keys in
    let start = start_of c.args.self.now.starts.items in
    let sound = c.requires.basis.conjuncts.linked.sound in
    let at : (k : ℕ) → Has c.args.component.now k → IsListAt lists (conjunct k) (start k) = λ k h. c.requires.components.starts.each k (c.requires.inside k h) in
    record {
      within = mapped_each (λ n. n < length lists) start c.args.component.now c.in_ok-lists.lists.items c.in_ok-lists.ensures (λ k h. (at k h).0);
      sound = mapped_each (λ n. AreSound (conjunct_of lists n)) start c.args.component.now c.in_ok-lists.lists.items c.in_ok-lists.ensures (λ k h. subst AreSound (sym (at k h).1) (sound k));
      components = c.requires.components;
      longer = longer_same lists;
      pairs = order_begins (stands_in (table_at b.table.now) b.pruning.rule) conjunct (conjunct_of lists) sound start c.args.component.now c.in_ok-lists.lists.items c.in_ok-lists.ensures (λ k h. sym (at k h).1);
    }

pub join-requires : goal.join-requires
join-requires g c =
    let ns = c.joins.lists.items in
    let i = c.cheapest-first.result.0 in
    let j = c.cheapest-first.result.1 in
    let x = c.remove-left.result in
    let y = c.remove-right.result in
    let below = subst (λ xs. j < length xs) c.as_slice-in-joins.ensures.value c.cheapest-first.ensures.1 in
    let order = c.cheapest-first.ensures.0 in
    let fewer = left_fewer ns j y below c.remove-right.ensures.value in
    let under : i < length (remove ns j) = omega (arith, below, order, fewer) in
    let left = subst (λ l. x ≡ slice_index_or l i x) c.remove-right.ensures.items c.remove-left.ensures.value in
    record {
      within = (
        c.joins.invariant.within x (left_there ns j y below c.remove-right.ensures.value x (taken_there (remove ns j) i x under left)),
        c.joins.invariant.within y (taken_there ns j y below c.remove-right.ensures.value),
      );
    }

pub joins-preserved : goal.joins-preserved
joins-preserved g c =
    let b = c.args.basis.now in
    let T = table_at b.table.now in
    let r = b.pruning.rule in
    let old = c.joins.self.memo.lists.keys in
    let new = c.join.new.self.lists.keys in
    let f = conjunct_of new in
    let ns = c.joins.lists.items in
    let i = c.cheapest-first.result.0 in
    let j = c.cheapest-first.result.1 in
    let x = c.remove-left.result in
    let y = c.remove-right.result in
    let n = c.in_ok-joined.joined in
    let all = joined_on (conjunct_of b.conjuncts.lists.items) (empty_pair ∷ []) c.args.component.now in
    let components = c.joins.invariant.components in
    let longer = c.in_ok-joined.ensures.longer in
    let fit = tests_fit T r b.pruning.fulfilment.now c.requires.basis.tests in
    let joins = c.in_ok-joined.ensures.joins T fit components.joins in
    let is : IsJoin T r new (record { left = x; right = y }) n = c.in_ok-joined.ensures.joined T fit components.joins in
    let below = subst (λ xs. j < length xs) c.as_slice-in-joins.ensures.value c.cheapest-first.ensures.1 in
    let order = c.cheapest-first.ensures.0 in
    let right = c.remove-right.ensures.value in
    let fewer = left_fewer ns j y below right in
    let under : i < length (remove ns j) = omega (arith, below, order, fewer) in
    let left = subst (λ l. x ≡ slice_index_or l i x) c.remove-right.ensures.items c.remove-left.ensures.value in
    let rest = remove (remove ns j) i in
    let there : (k : ℕ) → Has rest k → Has ns k = λ k h. left_there ns j y below right k (left_there (remove ns j) i x under left k h) in
    let same : (k : ℕ) → Has ns k → f k ≡ conjunct_of old k = λ k h. longer_there [] old new longer k (c.joins.invariant.within k h) in
    let sound : (k : ℕ) → Has ns k → AreSound (f k) = λ k h. subst AreSound (sym (same k h)) (c.joins.invariant.sound k h) in
    let made = sound_some (join (f x) (f y)) (f n) is.listed.kept.from (sound_join (f x) (f y) (sound y (taken_there ns j y below right))) in
    let items : c.push.new.self.items ≡ rest ++ n ∷ [] = c.in_ok-push.ensures.items ∙ ap (λ l. l ++ n ∷ []) (c.remove-left.ensures.items ∙ ap (λ l. remove l i) c.remove-right.ensures.items) in
    let before : IsKeptBy (StandsFor T r) all (join_of f ns) = subst (IsKeptBy (StandsFor T r) all) (join_same (conjunct_of old) f ns (λ k h. sym (same k h))) c.joins.invariant.pairs in
    record {
      within = λ k h. pushed_cases (λ m. m < length new) rest n (λ m s. longer_within old new longer m (c.joins.invariant.within m (there m s))) is.both k (subst (λ l. Has l k) items h);
      sound = λ k h. pushed_cases (λ m. AreSound (f m)) rest n (λ m s. sound m (there m s)) made k (subst (λ l. Has l k) items h);
      components = components_longer T r b.conjuncts.lists.items old new _ _ _ _ longer joins components;
      longer = longer_trans c.args.self.now.memo.lists.keys old new c.joins.invariant.longer longer;
      pairs = subst (λ l. IsKeptBy (StandsFor T r) all (join_of f l)) (sym items) (order_step (stands_in T r) f all ns i j x y n below right under left sound is.listed.kept before);
    }

pub returns-clause-last : goal.returns-clause-last
returns-clause-last g c =
    let b = c.args.basis.now in
    let T = table_at b.table.now in
    let r = b.pruning.rule in
    let lists = c.joins.self.memo.lists.keys in
    let f = conjunct_of lists in
    let ns = c.joins.lists.items in
    let none = c.joins.self.nothing in
    let at = c.joins.invariant.components.nothing in
    let all = joined_on (conjunct_of b.conjuncts.lists.items) (empty_pair ∷ []) c.args.component.now in
    let two : length ns ≤ 2 = subst (λ l. length l ≤ 2) c.as_slice.ensures.value (c.has_more_joins.ensures.few c.joins-test.false) in
    let few : length ns < 3 = omega (arith, two) in
    let left : c.number_at.result ≡ slice_index_or ns 0 none = c.number_at.ensures ∙ ap (λ l. slice_index_or l 0 none) c.as_slice-2.ensures.value in
    let right : c.number_at-2.result ≡ slice_index_or ns 1 none = c.number_at-2.ensures ∙ ap (λ l. slice_index_or l 1 none) c.as_slice-3.ensures.value in
    let within : (m : ℕ) → slice_index_or ns m none < length lists = λ m. at_place (λ k. k < length lists) ns none m c.joins.invariant.within at.0 in
    let listed = order_ends (stands_in T r) f all ns none few at.1 c.joins.invariant.sound c.joins.invariant.pairs in (
      (subst (λ k. k < length lists) (sym left) (within 0), subst (λ k. k < length lists) (sym right) (within 1)),
      subst (λ ps. IsListed (StandsFor T r) all (set_of pair_cmp ps)) (sym (λ i. join (f (left i)) (f (right i)))) listed,
    )
