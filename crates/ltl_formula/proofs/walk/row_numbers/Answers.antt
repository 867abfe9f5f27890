use Rattle.std.proofs.Common.{[], ap, arith, length, refl, ◌∙◌}
use Rattle.ltl_spec.proofs.NormalForms.SharedNodes.{tree_at}
use Rattle.ltl_spec.proofs.NormalForms.RowsCollected.{flags_begin}
use Rattle.std.proofs.lemmas.Grind.{common_steps}
use Rattle.ltl_formula.proofs.OrderLemmas.{numbers_in_order}
use Rattle.ltl_formula.proofs.WalkLemmas.{loop_begins, loop_goes_on, loop_pops, listed_few, walk_done}
use Rattle.ltl_syntax.proofs.CallLemmas.{none_left}
use Rattle.ltl_formula.proofs.walk.row_numbers.Goals as goal

pub work-init : goal.work-init
work-init g c = record {
  long = c.in_ok-flags.ensures.len ∙ c.len.ensures.count;
  few = grind (arith, common_steps);
  flags = flags_begin c.len.result _ _ (c.in_ok-flags.ensures.items_if_clones_equal (λ y e. e)) c.new-listed.ensures.items;
  walking = loop_begins c.args.graph.now.nodes c.args.root [] _ _ c.requires refl c.in_ok-stack.ensures.ok c.new-listed.ensures.items;
}

pub step-requires : goal.step-requires
step-requires g c =
    let top = (loop_pops c.args.graph.now.nodes c.args.root _ _ _ _ c.work.invariant.walking c.in-Some.ensures.items) in
    (omega arith, (omega arith, (omega arith, (c.len.ensures.constants.shared, (c.work.invariant.long, (c.work.invariant.flags, (record { now = top.1; later = top.0 }, c.work.invariant.walking.numbers)))))))

pub work-preserved : goal.work-preserved
work-preserved g c =
    let d = c.in_ok-step.ensures in
    let r = (loop_goes_on c.args.graph.now.nodes c.args.root _ _ _ _ _ _ c.work.invariant.walking c.in-Some.ensures.items d.done).0 in
    record {
      long = d.long;
      few = omega (arith, c.len-in-Some.ensures.value);
      flags = d.flags;
      walking = r;
    }

pub returns-then-len-gt-ROW_LIMIT-clause-too_many : goal.returns-then-len-gt-ROW_LIMIT-clause-too_many
returns-then-len-gt-ROW_LIMIT-clause-too_many g c = λ _.
    let r = (loop_goes_on c.args.graph.now.nodes c.args.root _ _ _ _ _ _ c.work.invariant.walking c.in-Some.ensures.items c.in_ok-step.ensures.done).0 in
    let f = listed_few (tree_at c.args.graph.now.nodes) (length c.args.graph.now.nodes) c.args.root _ _ r in
    omega (arith, f, c.len-in-Some.ensures.value)

pub returns-clause-order : goal.returns-clause-order
returns-clause-order g c = numbers_in_order c.args.graph.now.nodes c.args.root c.len.ensures.constants.shared c.requires c.work.listed.items c.work.invariant.walking.numbers (walk_done c.args.graph.now.nodes c.args.root c.work.stack.items c.work.listed.items (ap length (none_left c.work.stack.items c.in_default.ensures.variant.1)) c.work.invariant.walking)
