use Rattle.std.proofs.Common.{◌≡◌, ◌++◌, ◌∙◌, ◌+◌, ◌∷◌, [], ap, take, arith, rules}
use Rattle.std.proofs.lemmas.Grind.{common_steps}
use Rattle.ltl_spec.specs.Collections.Sets.{set_of}
use Rattle.ltl_spec.specs.Transitions.Cubes.{cube_cmp}
use Rattle.ltl_label.proofs.JoinedLaws.{widened_more, widened_none, widened_there}
use Rattle.ltl_label.proofs.joins.widened.Goals.{in-Some+in-Ok, in-Some+in-Err+in_ok-push-in-Err, in_default}
use Rattle.ltl_label.proofs.joins.widened.Goals as goal

pub cubes-preserved : goal.cubes-preserved
cubes-preserved g c =
    let next : take (c.cubes.cube-index + 1) c.args.cubes.now ≡ take c.cubes.cube-index c.args.cubes.now ++ c.cube-item.result ∷ [] = grind (arith, common_steps) in
    let others = c.args.others.now in
    let q = c.args.literals.now in
    let before = take c.cubes.cube-index c.args.cubes.now in
    let all = take (c.cubes.cube-index + 1) c.args.cubes.now in
    elim c.match-join.branch [
      | in-Some+in-Err+in_ok-push-in-Err w ↦ ap (λ v. set_of cube_cmp (others ++ v.items)) w.made-is
          ∙ widened_more q others c.cubes.made.items w.push.new.self.items before all c.cube-item.result w.in-Some.cube c.cubes.invariant next (search rules) (search rules)
      | in-Some+in-Ok w ↦ ap (λ v. set_of cube_cmp (others ++ v.items)) w.made-is
          ∙ widened_there q others c.cubes.made.items before all c.cube-item.result w.in-Some.cube c.cubes.invariant next (search rules) (search rules)
      | in_default w ↦ ap (λ v. set_of cube_cmp (others ++ v.items)) w.made-is ∙ widened_none q others c.cubes.made.items before all c.cube-item.result c.cubes.invariant next (search rules)
    ]
