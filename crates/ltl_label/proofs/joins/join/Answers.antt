use Rattle.std.proofs.Common.{◌++◌, ◌∙◌, ◌∷◌, [], ap, subst, arith, length, length-append}
use Rattle.std.specs.Prelude.{flat_map}
use Rattle.ltl_spec.specs.Collections.Sets.{set_of}
use Rattle.ltl_spec.specs.Transitions.Cubes.{cube_cmp}
use Rattle.ltl_label.specs.CubesView.{HasFew, joined_cubes, joins}
use Rattle.ltl_label.proofs.JoinedLaws.{turn_joined, turn_parted, turn_wide}
use Rattle.ltl_label.proofs.joins.join.Goals.{in-Some-parting_literals+in_ok-part-in-Some-parting_literals, in_default-parting_literals+in_ok-join_sides-in_default-parting_literals+else-not-branch}
use Rattle.ltl_label.proofs.joins.join.Goals as goal

pub sides-preserved : goal.sides-preserved
sides-preserved g c =
    elim c.match-parting_literals.branch [
      | in-Some-parting_literals+in_ok-part-in-Some-parting_literals w ↦ (λ i. set_of cube_cmp ((w.joined-is i).items ++ flat_map (λ s. joins s.left.items s.right.items) (w.waiting-is i).items))
          ∙ turn_parted c.sides.waiting.items c.pop.new.self.items c.in-Some.sides (λ s. joins s.left.items s.right.items) c.in-Some.ensures.items c.sides.joined.items w.part.new.waiting.items
          (joined_cubes c.args.left.items c.args.right.items) c.sides.invariant w.in_ok-part-in-Some-parting_literals.ensures.joins
      | in_default-parting_literals+in_ok-join_sides-in_default-parting_literals+else-not-branch w ↦ (λ i. set_of cube_cmp ((w.joined-is i).items ++ flat_map (λ s. joins s.left.items s.right.items) (w.waiting-is i).items))
          ∙ turn_joined c.sides.waiting.items c.pop.new.self.items c.in-Some.sides (λ s. joins s.left.items s.right.items) c.in-Some.ensures.items c.sides.joined.items w.join_sides.new.joined.items
          (joined_cubes c.args.left.items c.args.right.items) c.sides.invariant
          (subst (λ b. HasFew (c.sides.joined.items ++ joins c.in-Some.sides.left.items c.in-Some.sides.right.items) b w.join_sides.new.joined.items) w.if-not-branch.false
          w.in_ok-join_sides-in_default-parting_literals.ensures)
    ]

pub sides-preserved-after-parting_literals : goal.sides-preserved-after-parting_literals
sides-preserved-after-parting_literals g c =
    elim c.match-parting_literals.branch [
      | in-Some-parting_literals+in_ok-part-in-Some-parting_literals w ↦ (λ i. set_of cube_cmp ((w.joined-is i).items ++ flat_map (λ s. joins s.left.items s.right.items) (w.waiting-is i).items))
          ∙ turn_parted c.sides.waiting.items c.pop.new.self.items c.in-Some.sides (λ s. joins s.left.items s.right.items) c.in-Some.ensures.items c.sides.joined.items w.part.new.waiting.items
          (joined_cubes c.args.left.items c.args.right.items) c.sides.invariant w.in_ok-part-in-Some-parting_literals.ensures.joins
      | in_default-parting_literals+in_ok-join_sides-in_default-parting_literals+else-not-branch w ↦ (λ i. set_of cube_cmp ((w.joined-is i).items ++ flat_map (λ s. joins s.left.items s.right.items) (w.waiting-is i).items))
          ∙ turn_joined c.sides.waiting.items c.pop.new.self.items c.in-Some.sides (λ s. joins s.left.items s.right.items) c.in-Some.ensures.items c.sides.joined.items w.join_sides.new.joined.items
          (joined_cubes c.args.left.items c.args.right.items) c.sides.invariant
          (subst (λ b. HasFew (c.sides.joined.items ++ joins c.in-Some.sides.left.items c.in-Some.sides.right.items) b w.join_sides.new.joined.items) w.if-not-branch.false
          w.in_ok-join_sides-in_default-parting_literals.ensures)
    ]

pub returns-then-not-branch : goal.returns-then-not-branch
returns-then-not-branch g c =
    turn_wide c.sides.waiting.items c.pop.new.self.items c.in-Some.sides (λ s. joins s.left.items s.right.items) c.in-Some.ensures.items c.sides.joined.items c.args.left.items c.args.right.items c.sides.invariant
    (subst (λ b. HasFew (c.sides.joined.items ++ joins c.in-Some.sides.left.items c.in-Some.sides.right.items) b c.join_sides.new.joined.items) c.if-not-branch.true
    c.in_ok-join_sides-in_default-parting_literals.ensures)

pub sides-smaller : goal.sides-smaller
sides-smaller g c =
    let count = ap length c.in-Some.ensures.items ∙ length-append c.pop.new.self.items (c.in-Some.sides ∷ []) in
    elim c.match-parting_literals.branch [
      | in-Some-parting_literals+in_ok-part-in-Some-parting_literals w ↦ omega (arith, w.in_ok-part-in-Some-parting_literals.ensures.three, w.if-partings-gt0.true, count, w.partings-is, ap (λ v. length v.items) w.waiting-is)
      | in_default-parting_literals+in_ok-join_sides-in_default-parting_literals+else-not-branch w ↦ omega (arith, count, w.partings-is, ap (λ v. length v.items) w.waiting-is)
    ]

pub sides-smaller-after-parting_literals : goal.sides-smaller-after-parting_literals
sides-smaller-after-parting_literals g c =
    let count = ap length c.in-Some.ensures.items ∙ length-append c.pop.new.self.items (c.in-Some.sides ∷ []) in
    elim c.match-parting_literals.branch [
      | in-Some-parting_literals+in_ok-part-in-Some-parting_literals w ↦ omega (arith, w.in_ok-part-in-Some-parting_literals.ensures.three, w.if-partings-gt0.true, count, w.partings-is, ap (λ v. length v.items) w.waiting-is)
      | in_default-parting_literals+in_ok-join_sides-in_default-parting_literals+else-not-branch w ↦ omega (arith, count, w.partings-is, ap (λ v. length v.items) w.waiting-is)
    ]
