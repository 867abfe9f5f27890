use Rattle.std.proofs.Common.{refl, sym, ◌∙◌, ap, List, length}
use Rattle.ltl_spec.specs.Transitions.Cubes.{join_cubes}
use Rattle.ltl_spec.specs.Checking.Product.{renamed_cube}
use Rattle.ltl_sets.specs.declared.literal.Literal as made
use Rattle.ltl_sets.specs.Literals.{cube_of}
use Rattle.ltl_check.specs.ProductView.{number_in}
use Rattle.ltl_check.proofs.JoinLaws.{renamed_one, renamed_stop, first_below, rest_below, join_nothing}
use Rattle.ltl_check.proofs.product.joined.Goals as goal

pub loop-literal-preserved : goal.loop-literal-preserved
loop-literal-preserved c = record {
  whole =
      c.loop-literal.invariant.whole
      ∙ renamed_one (number_in c.args.numbers.now) c.loop-literal.cube _ _ c.in-Some.literal _ _ c.in-Some.ensures.steps refl (ap (join_cubes c.loop-literal.cube) (sym c.numbered.ensures) ∙ sym c.join.ensures ∙ c.in-Some-join.is);
  named = rest_below (length c.args.numbers.now) _ _ c.in-Some.literal c.in-Some.ensures.steps c.loop-literal.invariant.named;
}

pub returns-in-None-join : goal.returns-in-None-join
returns-in-None-join c =
    sym (c.loop-literal.invariant.whole
    ∙ renamed_stop (number_in c.args.numbers.now) c.loop-literal.cube _ _ c.in-Some.literal _ c.in-Some.ensures.steps refl (ap (join_cubes c.loop-literal.cube) (sym c.numbered.ensures) ∙ sym c.join.ensures ∙ c.in-None-join.is))

pub returns : goal.returns
returns c =
    sym (c.loop-literal.invariant.whole
    ∙ ap (λ (ls : List made.Literal). join_cubes c.loop-literal.cube (renamed_cube (number_in c.args.numbers.now) (cube_of ls))) c.in-None.ensures.steps.0
    ∙ join_nothing c.loop-literal.cube c.invariant.ensures.rising c.invariant.ensures.consistent)

pub numbered-requires-clause-named : goal.numbered-requires-clause-named
numbered-requires-clause-named c = first_below (length c.args.numbers.now) _ _ c.in-Some.literal c.in-Some.ensures.steps c.loop-literal.invariant.named
