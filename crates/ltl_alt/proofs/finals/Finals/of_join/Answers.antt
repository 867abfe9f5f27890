use Rattle.std.proofs.Common.{◌∙◌, [], ap, sym, subst}
use Rattle.ltl_spec.specs.Transitions.RowTransitions as spec
use Rattle.ltl_spec.proofs.Transitions.ProductTransitions.{transitions_of}
use Rattle.ltl_spec.specs.Collections.Lists.{HasNoRepeats}
use Rattle.std.specs.Prelude.{map}
use Rattle.ltl_alt.specs.FinalView.{IsListOf}
use Rattle.ltl_alt.specs.ListHash.{same_transitions, transitions_Decides}
use Rattle.ltl_alt.specs.TransitionView.{AllSets, table_at}
use Rattle.ltl_spec.specs.Transitions.Pairs.{join}
use Rattle.ltl_alt.specs.ConjunctTableView.{conjunct_of}
use Rattle.ltl_alt.specs.MemoView.{last_list}
use Rattle.ltl_alt.proofs.FinalLaws.{finals_longer, list_known, lists_more, sets_by_set, transitions_by_set}
use Rattle.ltl_alt.proofs.MapLaws.{longer_new, longer_same, stored_at}
use Rattle.ltl_alt.proofs.finals.Finals.of_join.Goals as goal

pub returns-in-Some-clause-number : goal.returns-in-Some-clause-number
returns-in-Some-clause-number g c =
    let b = c.args.basis.now in
    let old = c.args.self.now in
    list_known (table_at b.table.now) b.pruning.rule b.keep_implied b.conjuncts.lists.items old.components.memo.lists.keys old.lists.keys old.of_joins.entries old.of_components.entries c.args.key c.in-Some.number c.requires.finals.1 (c.in-Some.ensures ∙ c.get.ensures.value)

pub returns-in-Some-clause-longer : goal.returns-in-Some-clause-longer
returns-in-Some-clause-longer g c = longer_same c.args.self.now.lists.keys

pub pair_transitions-requires-clause-sets : goal.pair_transitions-requires-clause-sets
pair_transitions-requires-clause-sets g c =
    subst (λ ps. AllSets (map (spec.with_marks (table_at c.args.basis.now.table.now)) ps)) (sym c.as_slice.ensures.value)
    (sets_by_set (table_at c.args.basis.now.table.now) c.in_ok-pairs.pairs.items (last_list c.args.self.now.components.memo.lists.keys c.args.key) c.in_ok-pairs.ensures.set c.requires.sets)

pub pair_transitions-requires-clause-once : goal.pair_transitions-requires-clause-once
pair_transitions-requires-clause-once g c = subst HasNoRepeats (sym c.as_slice.ensures.value) c.in_ok-pairs.ensures.once

pub returns-clause-number : goal.returns-clause-number
returns-clause-number g c =
    let b = c.args.basis.now in
    let T = table_at b.table.now in
    let keys = c.args.self.now.components.memo.lists.keys in
    let js = join (conjunct_of keys c.args.key.left) (conjunct_of keys c.args.key.right) in
    let (x, e, d) = c.in_ok-number.ensures.stored in
    let at = stored_at [] c.number.new.self.keys c.in_ok-number.number x e in
    record {
      left = c.requires.within.0;
      right = c.requires.within.1;
      number = at.0;
      made = at.1 ∙ sym ((transitions_Decides c.in_ok-transitions.transitions x).0 d) ∙ c.in_ok-transitions.ensures ∙ ap (transitions_of T b.keep_implied) c.as_slice.ensures.value ∙ transitions_by_set T b.keep_implied c.in_ok-pairs.pairs.items js c.in_ok-pairs.ensures.set;
    }

pub returns-clause-longer : goal.returns-clause-longer
returns-clause-longer g c = longer_new same_transitions c.args.self.now.lists.keys c.number.new.self.keys c.in_ok-transitions.transitions c.in_ok-number.ensures.keys

pub returns-clause-finals : goal.returns-clause-finals
returns-clause-finals g c =
    let b = c.args.basis.now in
    let T = table_at b.table.now in
    let old = c.args.self.now in
    let pairs = old.components.memo.lists.keys in
    let lists = c.number.new.self.keys in
    let keys = c.args.self.now.components.memo.lists.keys in
    let js = join (conjunct_of keys c.args.key.left) (conjunct_of keys c.args.key.right) in
    let (x, e, d) = c.in_ok-number.ensures.stored in
    let at = stored_at [] lists c.in_ok-number.number x e in
    let is : IsListOf T b.keep_implied pairs lists c.args.key c.in_ok-number.number = record {
      left = c.requires.within.0;
      right = c.requires.within.1;
      number = at.0;
      made = at.1 ∙ sym ((transitions_Decides c.in_ok-transitions.transitions x).0 d) ∙ c.in_ok-transitions.ensures ∙ ap (transitions_of T b.keep_implied) c.as_slice.ensures.value ∙ transitions_by_set T b.keep_implied c.in_ok-pairs.pairs.items js c.in_ok-pairs.ensures.set;
    } in
    let longer = longer_new same_transitions old.lists.keys lists c.in_ok-transitions.transitions c.in_ok-number.ensures.keys in (
      c.requires.finals.0,
      lists_more T b.pruning.rule b.keep_implied b.conjuncts.lists.items pairs lists old.of_joins.entries c.insert.new.self.entries old.of_components.entries c.args.key c.in_ok-number.number
          (finals_longer T b.pruning.rule b.keep_implied b.conjuncts.lists.items pairs pairs old.lists.keys lists old.of_joins.entries old.of_components.entries (longer_same pairs) longer c.requires.finals.1) is c.in_ok-insert.ensures.entries,
    )
