use Rattle.std.proofs.Common.{Option, ◌≡◌, sym, ◌∙◌}
use Rattle.std.specs.Prelude.{take}
use Rattle.std.specs.Ordering.{eq_by_cmp}
use Rattle.ltl_spec.specs.Collections.Lists.{with_new}
use Rattle.ltl_spec.specs.Transitions.Pairs.{Pair, pair_cmp, join_pair}
use Rattle.ltl_automaton.proofs.NetLaws.{took}
use Rattle.ltl_alt.proofs.RepeatLaws.{noted_some, noted_none}
use Rattle.ltl_alt.proofs.lists.note_joins.Goals.{in-Some+in_ok-number, in_default}
use Rattle.ltl_alt.proofs.lists.note_joins.Goals as goal

pub left-preserved : goal.left-preserved
left-preserved g c =
    let more = took c.args.left.now c.left.p-index c.p-item.result c.left-test.true c.p-item.is in
    let f : Pair → Option Pair = λ p. join_pair p c.args.right.now in
    elim c.match-join.branch [
      | in-Some+in_ok-number w ↦
          let e : c.match-join.once.keys ≡ with_new (eq_by_cmp pair_cmp) c.left.once.keys w.in-Some.pair = (let p = w.once-is in let q = w.in_ok-number.ensures.keys in cc) in
          noted_some f c.args.once.now.keys (take c.left.p-index c.args.left.now) _ c.left.once.keys c.match-join.once.keys c.p-item.result w.in-Some.pair c.left.invariant more (sym c.join.ensures ∙ w.in-Some.is) e
      | in_default w ↦
          let e : c.match-join.once.keys ≡ c.left.once.keys = (let p = w.once-is in cc) in
          e ∙ noted_none f c.args.once.now.keys (take c.left.p-index c.args.left.now) _ c.left.once.keys c.p-item.result c.left.invariant more (λ p d. w.in_default.not-Some p (c.join.ensures ∙ d))
    ]
