use Rattle.std.proofs.Common.{◌≡◌, length}
use Rattle.ltl_spec.specs.Transitions.Cubes.{join_cubes}
use Rattle.ltl_spec.specs.Checking.Product.{renamed_cube}
use Rattle.ltl_sets.specs.Literals.{cube_of}
use Rattle.ltl_check.specs.ProductView.{number_in}
use Rattle.ltl_check.proofs.JoinLaws.{AreBelow}
use Rattle.ltl_check.proofs.product.joined.Given as goal

abbrev pub invariant-loop-literal : goal.invariant-loop-literal
invariant-loop-literal l = record {
  whole : join_cubes l.mine (renamed_cube (number_in l.numbers) l.other) ≡ join_cubes l.cube (renamed_cube (number_in l.numbers) (cube_of l.literal-iterator));
  named : AreBelow (length l.numbers) l.literal-iterator;
}
