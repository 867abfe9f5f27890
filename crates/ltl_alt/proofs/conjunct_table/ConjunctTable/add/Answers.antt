use Rattle.std.proofs.Common.{◌≡◌, ◌+◌, ◌∙◌, ap, arith, length, map, sym, subst}
use Rattle.std.specs.Ordering.{nat_cmp}
use Rattle.ltl_spec.specs.Collections.Sets.{put}
use Rattle.ltl_spec.proofs.Transitions.ConjunctJoins.{join_all}
use Rattle.ltl_spec.proofs.Transitions.SameJoins.{AreAlike}
use Rattle.ltl_alt.specs.ConjunctTableView.{AreAdded}
use Rattle.ltl_alt.specs.ConjunctView.{AreFew, AreInside}
use Rattle.ltl_alt.specs.TestPairs.{step_pairs}
use Rattle.ltl_alt.specs.TransitionView.{table_at}
use Rattle.ltl_alt.proofs.ConjunctTableLaws.{added_count, made_more}
use Rattle.ltl_alt.proofs.ConjunctLaws.{conjuncts_long, pairs_at_step}
use Rattle.ltl_alt.proofs.conjunct_table.ConjunctTable.add.Goals as goal

pub push_conjuncts-requires-clause-conjuncts : goal.push_conjuncts-requires-clause-conjuncts
push_conjuncts-requires-clause-conjuncts g c =
    let n = length c.args.self.now.lists.items in
    let few = c.in_ok-conjuncts.ensures.few in
    let room = c.requires.room.1.2 in
    let inside = subst (λ qs. AreInside qs c.in_ok-conjuncts.conjuncts.items) c.steps.ensures c.in_ok-conjuncts.ensures.inside in
    subst (λ xs. AreFew c.args.context.now.program.now.steps.keys xs n) (sym c.as_slice.ensures) (record { inside = inside; few = omega arith })

pub returns-clause-conjuncts : goal.returns-clause-conjuncts
returns-clause-conjuncts g c =
    let t = c.args.context.now.table.now in
    let ss = c.args.context.now.program.now.steps.keys in
    let T = table_at t in
    let r = c.args.context.now.pruning.rule in
    let old = c.args.self.now in
    let new = c.push_conjuncts.new.self in
    let ps = c.in_ok-conjuncts.conjuncts.items in
    let added = subst (λ xs. AreAdded T r c.args.place (map (step_pairs ss) xs) old.owners.items new.owners.items old.lists.items new.lists.items) c.as_slice.ensures c.in_ok-push_conjuncts.ensures.added in
    let count : length new.lists.items ≡ length old.lists.items + length ps = added_count T r c.args.place (map (step_pairs ss) ps) old.owners.items new.owners.items old.lists.items new.lists.items added ∙ ap (λ n. length old.lists.items + n) (conjuncts_long ss ps) in
    let few = c.in_ok-conjuncts.ensures.few in
    let room = c.requires.room.1.2 in
    let x = c.pair_step-step.result in
    let pairs = pairs_at_step t ss c.args.context.now.program.now.rows.items c.args.place c.elementary_row.result x c.invariant.ensures c.requires.context.program c.elementary_row.ensures.found c.elementary_row.ensures.within c.pair_step-step.ensures in
    let joined = subst (λ qs. AreAlike (step_pairs qs x) (join_all (map (step_pairs qs) ps))) c.steps.ensures c.in_ok-conjuncts.ensures.joined in
    let alike = subst (λ xs. AreAlike xs (join_all (map (step_pairs ss) ps))) (sym pairs) joined in
    record {
      linked = c.in_ok-push_conjuncts.ensures.linked;
      rows = made_more T r old.made old.owners.items c.insert.new.self new.owners.items old.lists.items new.lists.items c.args.place (map (step_pairs ss) ps) c.requires.conjuncts.rows c.requires.room.0 alike added (omega arith)
          (c.insert.ensures ∙ ap (put nat_cmp c.args.place) c.in_ok-push_conjuncts.ensures.made);
    }

pub returns-clause-made : goal.returns-clause-made
returns-clause-made g c = c.insert.ensures ∙ ap (put nat_cmp c.args.place) c.in_ok-push_conjuncts.ensures.made

pub returns-clause-few : goal.returns-clause-few
returns-clause-few g c =
    let t = c.args.context.now.table.now in
    let ss = c.args.context.now.program.now.steps.keys in
    let T = table_at t in
    let r = c.args.context.now.pruning.rule in
    let old = c.args.self.now in
    let new = c.push_conjuncts.new.self in
    let ps = c.in_ok-conjuncts.conjuncts.items in
    let added = subst (λ xs. AreAdded T r c.args.place (map (step_pairs ss) xs) old.owners.items new.owners.items old.lists.items new.lists.items) c.as_slice.ensures c.in_ok-push_conjuncts.ensures.added in
    let count : length new.lists.items ≡ length old.lists.items + length ps = added_count T r c.args.place (map (step_pairs ss) ps) old.owners.items new.owners.items old.lists.items new.lists.items added ∙ ap (λ n. length old.lists.items + n) (conjuncts_long ss ps) in
    let few = c.in_ok-conjuncts.ensures.few in
    omega arith
