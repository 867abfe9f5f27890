use Rattle.std.proofs.Common.{rules, ◌≡◌, ◌++◌, ◌∙◌, ◌+◌, ◌∷◌, [], ap, sym, take, arith}
use Rattle.std.proofs.lemmas.Grind.{common_steps}
use Rattle.std.proofs.lemmas.List.{append_assoc}
use Rattle.ltl_spec.specs.Collections.Sets.{Has, set_of}
use Rattle.ltl_spec.specs.Transitions.Cubes.{cube_cmp}
use Rattle.ltl_label.proofs.CubeLists.{set_append, set_inserted, set_with_member}
use Rattle.ltl_label.proofs.cubes.insert_each.Goals.{in-Ok, in-Err+in_ok-insert-in-Err}
use Rattle.ltl_label.proofs.cubes.insert_each.Goals as goal

pub more-preserved : goal.more-preserved
more-preserved g c =
    let next : take (c.more.cube-index + 1) c.args.more.now ≡ take c.more.cube-index c.args.more.now ++ c.cube-item.result ∷ [] = grind (arith, common_steps) in
    let start = c.args.cubes.now.items in
    let before = take c.more.cube-index c.args.more.now in
    let last = c.cube-item.result in
    let step : set_of cube_cmp (c.more.cubes.items ++ last ∷ []) ≡ set_of cube_cmp (start ++ take (c.more.cube-index + 1) c.args.more.now) =
    set_append c.more.cubes.items (start ++ before) (last ∷ []) c.more.invariant ∙ ap (set_of cube_cmp) (append_assoc start before (last ∷ []) ∙ ap (λ l. start ++ l) (sym next)) in
    elim c.match-place_of.branch [
      | in-Ok w ↦
          let there : Has c.more.cubes.items last = search rules in
          ap (λ v. set_of cube_cmp v.items) w.cubes-is ∙ set_with_member c.more.cubes.items last there ∙ step
      | in-Err+in_ok-insert-in-Err w ↦ ap (λ v. set_of cube_cmp v.items) w.cubes-is ∙ ap (set_of cube_cmp) w.in_ok-insert-in-Err.ensures.ok ∙ set_inserted c.more.cubes.items w.in-Err.place last ∙ step
    ]
