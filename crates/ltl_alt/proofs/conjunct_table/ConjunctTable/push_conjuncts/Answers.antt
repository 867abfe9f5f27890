use Rattle.std.proofs.Common.{◌≡◌, ◌+◌, ◌∷◌, [], ◌++◌, ◌<◌, ◌∙◌, ap, arith, length, map, take}
use Rattle.std.specs.Prelude.{slice_index_or}
use Rattle.std.proofs.lemmas.List.{length-append, take_more}
use Rattle.ltl_spec.proofs.Collections.ListLaws.{Has-at}
use Rattle.ltl_alt.specs.TestPairs.{step_pairs}
use Rattle.ltl_alt.specs.TransitionView.{table_at}
use Rattle.ltl_alt.proofs.ConjunctTableLaws.{added_more, kept_sound, map_behind}
use Rattle.ltl_alt.proofs.ConjunctLaws.{conjunct_sound}
use Rattle.ltl_alt.proofs.conjunct_table.ConjunctTable.push_conjuncts.Goals as goal

pub conjunct_pairs-requires-clause-within : goal.conjunct_pairs-requires-clause-within
conjunct_pairs-requires-clause-within g c = c.requires.conjuncts.inside (slice_index_or c.args.conjuncts.now c.conjuncts.conjunct-index 0) (Has-at c.args.conjuncts.now c.conjuncts.conjunct-index 0 c.conjuncts-test.true)

pub push-requires-clause-few : goal.push-requires-clause-few
push-requires-clause-few g c =
    let few = c.requires.conjuncts.few in
    let count = c.conjuncts.invariant.count in
    let inside : c.conjuncts.conjunct-index < length c.args.conjuncts.now = c.conjuncts-test.true in
    omega arith

pub push-requires-clause-sound : goal.push-requires-clause-sound
push-requires-clause-sound g c =
    let t = c.args.context.now.table.now in
    let ss = c.args.context.now.program.now.steps.keys in
    let p = slice_index_or c.args.conjuncts.now c.conjuncts.conjunct-index 0 in
    kept_sound (table_at t) c.args.context.now.pruning.rule (step_pairs ss p) c.in_ok-pairs.pairs (conjunct_sound ss p) c.in_ok-pairs.ensures.pairs.kept

pub conjuncts-preserved : goal.conjuncts-preserved
conjuncts-preserved g c =
    let t = c.args.context.now.table.now in
    let ss = c.args.context.now.program.now.steps.keys in
    let ps = c.args.conjuncts.now in
    let i = c.conjuncts.conjunct-index in
    let p = slice_index_or ps i 0 in
    let next : map (step_pairs ss) (take (i + 1) ps) ≡ map (step_pairs ss) (take i ps) ++ step_pairs ss p ∷ [] = ap (map (step_pairs ss)) (take_more ps i 0 c.conjuncts-test.true) ∙ map_behind (step_pairs ss) (take i ps) p in
    let old = c.conjuncts.self in
    let new = c.push.new.self in
    let one : length new.lists.items ≡ length old.lists.items + 1 = ap length c.in_ok-push.ensures.lists ∙ length-append old.lists.items (c.in_ok-pairs.pairs ∷ []) in
    let count = c.conjuncts.invariant.count in
    record {
      lists = c.in_ok-pairs.ensures.lists;
      linked = c.in_ok-push.ensures.linked;
      added = added_more (table_at t) c.args.context.now.pruning.rule c.args.place (map (step_pairs ss) (take i ps)) (map (step_pairs ss) (take (i + 1) ps)) c.args.self.now.owners.items old.owners.items new.owners.items
          c.args.self.now.lists.items old.lists.items new.lists.items (step_pairs ss p) c.in_ok-pairs.pairs c.conjuncts.invariant.added c.in_ok-pairs.ensures.pairs.kept next c.in_ok-push.ensures.owners c.in_ok-push.ensures.lists;
      made = c.in_ok-push.ensures.made ∙ c.conjuncts.invariant.made;
      count = omega arith;
    }
