use Rattle.std.proofs.Common.{rules, ◌≡◌, ◌∙◌, [], ap, sym, subst, length}
use Rattle.std.specs.List.{dedup}
use Rattle.std.specs.List.Retain.{DiffersFromLast, IsFiltered}
use Rattle.std.proofs.lemmas.List.Sorted.{length_permutation}
use Rattle.ltl_spec.specs.Collections.Sets.{set_of}
use Rattle.ltl_spec.specs.Transitions.Cubes.{cube_cmp}
use Rattle.ltl_spec.proofs.Collections.Orders.{cube_linear}
use Rattle.ltl_spec.proofs.Collections.SortedSets.{sorted_by, sorted_set_itself}
use Rattle.ltl_sets.specs.CubeEq.{cube_Decides, same_cube}
use Rattle.ltl_label.proofs.CubeLists.{dedup_filtered, refill_all}
use Rattle.ltl_label.proofs.cubes.sort_dedup.Goals as goal

pub returns : goal.returns
returns g c =
    let sorted = c.sort_unstable_by.new.self in
    let long : length sorted ≡ length c.args.cubes.now.items = length_permutation _ _ c.sort_unstable_by.ensures.permutation ∙ ap length c.deref_mut.ensures.value in
    let left : c.dedup.new.self.items ≡ dedup same_cube sorted = c.dedup.ensures.items ∙ ap (dedup same_cube) (refill_all c.args.cubes.now.items sorted long) in
    sorted_set_itself cube_linear same_cube cube_Decides _ _ _ c.sort_unstable_by.ensures.permutation
    (sorted_by cube_linear.total (λ d. d) _ c.sort_unstable_by.ensures.sorted (λ a r q k. search rules))
    (subst (λ zs. IsFiltered (DiffersFromLast same_cube) [] sorted zs) (sym left) (dedup_filtered same_cube sorted))
    ∙ ap (set_of cube_cmp) c.deref_mut.ensures.value
