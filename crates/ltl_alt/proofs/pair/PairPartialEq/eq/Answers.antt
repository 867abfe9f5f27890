use Rattle.std.proofs.Common.{◌≡◌, ◌∙◌, ◌&&◌, Bool, sym, ap, nat_eq}
use Rattle.std.specs.Bool.{Decides}
use Rattle.std.specs.Cmp.{first_so, second_so}
use Rattle.std.specs.Cmp.Lexicographic.{pointwise, bytes_decides}
use Rattle.std.specs.Ordering.{eq_by_cmp, is_eq}
use Rattle.std.proofs.lemmas.Bool.Decides.{same_from_decides}
use Rattle.std.proofs.lemmas.Cmp.{tied_itself}
use Rattle.ltl_sets.specs.CubeEq.{same_cube, cube_Decides}
use Rattle.ltl_spec.specs.Transitions.Pairs.{Pair, pair_cmp}
use Rattle.ltl_spec.proofs.Collections.Orders.{pair_linear}
use Rattle.ltl_alt.specs.PairHash.{exact}
use Rattle.ltl_alt.proofs.JoinLaws.{same_pair}
use Rattle.ltl_alt.proofs.pair.PairPartialEq.eq.Goals as goal

-- whether both conjuncts are the same
abbrev both_same : Pair → Pair → Bool
both_same p q = pointwise nat_eq p.targets q.targets && same_cube p.cube q.cube

both_Decides : (p q : Pair) → Decides (both_same p q) (p ≡ q)
both_Decides p q = (
  (λ e. same_pair p q (second_so (pointwise nat_eq p.targets q.targets) (same_cube p.cube q.cube) e) (first_so (pointwise nat_eq p.targets q.targets) (same_cube p.cube q.cube) e)),
  (λ e.
      let cubes = (cube_Decides p.cube q.cube).1 (ap (λ (m : Pair). m.cube) e) in
      let targets = (bytes_decides p.targets q.targets).1 (ap (λ (m : Pair). m.targets) e) in
      λ i. targets i && cubes i),
)

order_Decides : (p q : Pair) → Decides (eq_by_cmp pair_cmp p q) (p ≡ q)
order_Decides p q = (exact p q, λ e. ap (eq_by_cmp pair_cmp p) (sym e) ∙ ap is_eq (tied_itself pair_linear.total p))

same_tests : (p q : Pair) → both_same p q ≡ eq_by_cmp pair_cmp p q
same_tests p q = same_from_decides (both_same p q) (eq_by_cmp pair_cmp p q) (both_Decides p q) (order_Decides p q)

pub returns-then-eq : goal.returns-then-eq
returns-then-eq c =
    rw (← c.self.view_is, ← c.other.view_is)
    ((λ i. sym c.if-eq.true i && c.eq-then-eq.result) ∙ (λ i. c.eq.ensures i && c.eq-then-eq.ensures i)
    ∙ same_tests (record { cube = c.self.inside.cube; targets = c.self.inside.targets }) (record { cube = c.other.inside.cube; targets = c.other.inside.targets }))

pub returns-else-eq : goal.returns-else-eq
returns-else-eq c =
    rw (← c.self.view_is, ← c.other.view_is)
    (c.if-eq.false ∙ (λ i. sym c.if-eq.false i && same_cube c.self.inside.cube c.other.inside.cube) ∙ (λ i. c.eq.ensures i && same_cube c.self.inside.cube c.other.inside.cube)
    ∙ same_tests (record { cube = c.self.inside.cube; targets = c.self.inside.targets }) (record { cube = c.other.inside.cube; targets = c.other.inside.targets }))
