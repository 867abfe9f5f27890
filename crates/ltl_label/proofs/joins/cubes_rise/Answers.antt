use Rattle.std.proofs.Common.{◌≡◌, ◌++◌, ◌+◌, ◌∷◌, [], sym, subst, take, arith, inl, inr}
use Rattle.std.proofs.lemmas.Grind.{common_steps}
use Rattle.ltl_spec.specs.Collections.Sets.{Has, IsRising}
use Rattle.ltl_spec.specs.Transitions.Cubes.{literal_cmp}
use Rattle.ltl_spec.proofs.Collections.SetLaws.{append_cases}
use Rattle.ltl_label.proofs.joins.cubes_rise.Goals as goal

pub cubes-preserved : goal.cubes-preserved
cubes-preserved c d h =
    let next : take (c.cubes.cube-index + 1) c.args.cubes.now ≡ take c.cubes.cube-index c.args.cubes.now ++ c.cube-item.result ∷ [] = grind (arith, common_steps) in
    elim (append_cases (take c.cubes.cube-index c.args.cubes.now) (c.cube-item.result ∷ []) d (subst (λ l. Has l d) next h)) [
      | inl k ↦ c.cubes.invariant d k
      | inr (inl e) ↦ subst (IsRising literal_cmp) (sym e) c.invariant.ensures.rising
      | inr (inr n) ↦ absurd n
    ]
