use Rattle.std.proofs.Common.{◌≡◌, ◌++◌, ◌∙◌, ◌<◌, ◌+◌, ◌∷◌, [], ap, subst, take, length, arith}
use Rattle.std.proofs.lemmas.Grind.{common_steps}
use Rattle.ltl_spec.specs.Tools.Limits.{stated_limits}
use Rattle.ltl_spec.specs.Collections.Sets.{set_of}
use Rattle.ltl_spec.specs.Transitions.Cubes.{cube_cmp}
use Rattle.ltl_label.proofs.CubeLists.{joined_step, joined_wide, set_again}
use Rattle.ltl_label.proofs.joins.join_each.Goals.{then-len-gt-MOST_CUBES+else-len-gt-MOST_CUBES-2, else-len-gt-MOST_CUBES}
use Rattle.ltl_label.proofs.joins.join_each.Goals as goal

pub returns-then-len-gt-MOST_CUBES-2 : goal.returns-then-len-gt-MOST_CUBES-2
returns-then-len-gt-MOST_CUBES-2 g c =
    let next : take (c.left.cube-index + 1) c.args.left.now ≡ take c.left.cube-index c.args.left.now ++ c.cube-item.result ∷ [] = grind (arith, common_steps) in
    let step = joined_step c.args.joined.now.items c.args.left.now c.args.right.now c.left.joined.items c.join_one.new.joined.items c.left.cube-index c.cube-item.result c.left.invariant next c.in_ok-join_one.ensures in
    let wide : stated_limits.label_cubes < length c.sort_dedup.new.cubes.items = omega (arith, c.len-then-len-gt-MOST_CUBES.ensures.value, c.if-len-gt-MOST_CUBES-2.true) in
    joined_wide c.args.joined.now.items c.args.left.now c.args.right.now c.join_one.new.joined.items (c.left.cube-index + 1) step (subst (λ l. stated_limits.label_cubes < length l) c.sort_dedup.ensures wide)

pub left-preserved : goal.left-preserved
left-preserved g c =
    let next : take (c.left.cube-index + 1) c.args.left.now ≡ take c.left.cube-index c.args.left.now ++ c.cube-item.result ∷ [] = grind (arith, common_steps) in
    let step = joined_step c.args.joined.now.items c.args.left.now c.args.right.now c.left.joined.items c.join_one.new.joined.items c.left.cube-index c.cube-item.result c.left.invariant next c.in_ok-join_one.ensures in
    elim c.if-len-gt-MOST_CUBES.branch [
      | then-len-gt-MOST_CUBES+else-len-gt-MOST_CUBES-2 w ↦ ap (λ v. set_of cube_cmp v.items) w.joined-is ∙ ap (set_of cube_cmp) w.sort_dedup.ensures ∙ set_again c.join_one.new.joined.items ∙ step
      | else-len-gt-MOST_CUBES w ↦ ap (λ v. set_of cube_cmp v.items) w.joined-is ∙ step
    ]
