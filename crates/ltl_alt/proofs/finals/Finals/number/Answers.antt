use Rattle.std.proofs.Common.{◌∙◌, ◌∷◌, [], refl}
use Rattle.ltl_spec.specs.Transitions.Pairs.{empty_pair}
use Rattle.ltl_alt.specs.MemoView.{last_list}
use Rattle.ltl_alt.specs.ConjunctTableView.{conjunct_of}
use Rattle.ltl_alt.specs.TransitionView.{table_at}
use Rattle.ltl_alt.proofs.FinalLaws.{component_known, components_more, final_kept, finals_longer}
use Rattle.ltl_alt.proofs.ComponentLaws.{joined_on, joined_sound}
use Rattle.ltl_alt.proofs.ImpliedLaws.{listed_sets}
use Rattle.ltl_alt.proofs.MapLaws.{longer_same}
use Rattle.ltl_alt.proofs.finals.Finals.number.Goals as goal

pub returns-in-Some-clause-number : goal.returns-in-Some-clause-number
returns-in-Some-clause-number g c =
    let b = c.args.basis.now in
    let old = c.args.self.now in
    component_known (table_at b.table.now) b.pruning.rule b.keep_implied b.conjuncts.lists.items old.components.memo.lists.keys old.lists.keys old.of_joins.entries old.of_components.entries c.args.component.now c.in-Some.number c.requires.finals.1 (c.in-Some.ensures ∙ c.get.ensures.value)

pub returns-in-Some-clause-longer : goal.returns-in-Some-clause-longer
returns-in-Some-clause-longer g c = longer_same c.args.self.now.lists.keys

pub of_join-requires : goal.of_join-requires
of_join-requires g c =
    let b = c.args.basis.now in
    let T = table_at b.table.now in
    let old = c.args.self.now in
    let conjunct = conjunct_of b.conjuncts.lists.items in
    let all = joined_on conjunct (empty_pair ∷ []) c.args.component.now in
    let at = c.in_ok-key.ensures.last in
    record {
      basis = c.requires.basis;
      finals = (c.in_ok-key.ensures.components, finals_longer T b.pruning.rule b.keep_implied b.conjuncts.lists.items old.components.memo.lists.keys c.last.new.self.memo.lists.keys old.lists.keys old.lists.keys old.of_joins.entries old.of_components.entries c.in_ok-key.ensures.longer (longer_same old.lists.keys) c.requires.finals.1);
      within = at.0;
      sets = listed_sets T b.pruning.rule all (last_list c.last.new.self.memo.lists.keys c.in_ok-key.key) _ (joined_sound conjunct c.requires.basis.conjuncts.linked.sound c.args.component.now) at.1 refl;
    }

pub returns-clause-number : goal.returns-clause-number
returns-clause-number g c =
    let b = c.args.basis.now in
    final_kept (table_at b.table.now) b.pruning.rule b.keep_implied b.conjuncts.lists.items c.last.new.self.memo.lists.keys c.of_join.new.self.lists.keys c.args.component.now c.in_ok-key.key c.in_ok-number.number
    c.requires.basis.conjuncts.linked.sound c.in_ok-key.ensures.last c.in_ok-number.ensures.number

pub returns-clause-finals : goal.returns-clause-finals
returns-clause-finals g c =
    let b = c.args.basis.now in
    let T = table_at b.table.now in
    let new = c.of_join.new.self in
    let after = c.in_ok-number.ensures.finals in
    let found = final_kept T b.pruning.rule b.keep_implied b.conjuncts.lists.items c.last.new.self.memo.lists.keys new.lists.keys c.args.component.now c.in_ok-key.key c.in_ok-number.number
    c.requires.basis.conjuncts.linked.sound c.in_ok-key.ensures.last c.in_ok-number.ensures.number in (
      after.0,
      components_more T b.pruning.rule b.keep_implied b.conjuncts.lists.items new.components.memo.lists.keys new.lists.keys new.of_joins.entries new.of_components.entries c.insert.new.self.entries c.args.component.now c.in_ok-number.number after.1
          found c.in_ok-insert.ensures.entries,
    )
