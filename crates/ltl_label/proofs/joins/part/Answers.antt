use Rattle.std.proofs.Common.{true, false, ◌++◌, ◌∙◌, ap, subst}
use Rattle.ltl_spec.specs.Collections.Sets.{Has, IsRising}
use Rattle.ltl_spec.specs.Transitions.Cubes.{Cube, literal_cmp}
use Rattle.ltl_label.specs.CubesView.{joins}
use Rattle.ltl_label.proofs.JoinedLaws.{part_waits, parted_by, with_all}
use Rattle.ltl_label.proofs.joins.part.Goals as goal

pub returns-clause-joins : goal.returns-clause-joins
returns-clause-joins g c =
    let q = c.args.literals.now in
    let left = c.args.sides.now.left.items in
    let right = c.args.sides.now.right.items in
    let left-with = c.in_ok-left.left.with.items in
    let left-without = c.in_ok-left.left.without.items in
    let made = c.sort_dedup.new.cubes.items in
    let right-with = c.in_ok-right.right.with.items in
    let right-without = c.in_ok-right.right.without.items in
    let all = c.in_ok-right_all.right_all.items in
    part_waits (λ s. joins s.left.items s.right.items) c.put_waiting.result c.put_waiting.new.waiting.items c.args.waiting.now.items
    (joins left-without right-without ++ (joins made right-with ++ joins left-with all)) (joins left right)
    (parted_by q left right left-with left-without c.in_ok-left.left.made.items made right-with right-without c.in_ok-right.right.made.items all
    c.invariant.ensures.rising
    (subst (λ xs. (d : Cube) → Has xs d → IsRising literal_cmp d) c.as_slice.ensures c.cubes_rise.ensures)
    (c.in_ok-left.ensures.with ∙ ap (with_all q true) c.as_slice-2.ensures)
    (c.in_ok-left.ensures.without ∙ ap (with_all q false) c.as_slice-2.ensures)
    (c.in_ok-right.ensures.with ∙ ap (with_all q true) c.as_slice-3.ensures)
    (c.in_ok-right.ensures.without ∙ ap (with_all q false) c.as_slice-3.ensures)
    c.in_ok-left.ensures.made
    c.in_ok-right.ensures.made
    c.sort_dedup.ensures
    c.in_ok-right_all.ensures)
    c.put_waiting.ensures.joins
