use Rattle.std.proofs.Common.{◌∙◌}
use Rattle.ltl_label.specs.CubesView.{joins}
use Rattle.ltl_label.proofs.JoinedLaws.{few_behind, joined_once, wide_behind}
use Rattle.ltl_label.proofs.joins.join_sides.Goals as goal

pub returns-then-not-branch : goal.returns-then-not-branch
returns-then-not-branch g c =
    wide_behind c.args.joined.now.items c.args.sides.now.left.items c.args.sides.now.right.items c.as_slice-2.result.now c.as_slice-3.result.now c.new-made.result.items c.join_each-2.new.joined.items c.in_ok-join_each.field-0
    c.in_ok-join_each.ensures c.if-not-branch.true c.new-made.ensures.items c.as_slice-2.ensures c.as_slice-3.ensures

pub returns : goal.returns
returns g c =
    few_behind c.put_behind.result c.args.joined.now.items _ (joins c.args.sides.now.left.items c.args.sides.now.right.items) c.put_behind.new.joined.items
    (joined_once c.args.sides.now.left.items c.args.sides.now.right.items c.as_slice-2.result.now c.as_slice-3.result.now c.new-made.result.items c.join_each-2.new.joined.items _ c.in_ok-join_each.field-0
    c.in_ok-join_each.ensures c.if-not-branch.false c.new-made.ensures.items c.as_slice-2.ensures c.as_slice-3.ensures (c.as_slice-4.ensures ∙ c.sort_dedup.ensures))
    c.put_behind.ensures
