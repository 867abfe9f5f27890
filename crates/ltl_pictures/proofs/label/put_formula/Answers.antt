use Rattle.std.proofs.Common.{refl, map, string_bytes}
use Rattle.ltl_streams.proofs.PrintLaws.{lacks_all, lacks_step}
use Rattle.ltl_text.proofs.TextLaws.{first_name, other_names}
use Rattle.ltl_text.proofs.TextLaws as text
use Rattle.ltl_pictures.proofs.EdgeLaws.{has_names}
use Rattle.ltl_pictures.proofs.PutLaws.{formula_begins, formula_goes_on}
use Rattle.ltl_pictures.proofs.label.put_formula.Goals as goal

pub put_literal-requires : goal.put_literal-requires
put_literal-requires g c = first_name _ _ _ _ c.in-Some.ensures.steps (text.has_names _ _ _ c.iter-literals.ensures.literals (has_names _ _ c.requires))

pub loop-literal-init : goal.loop-literal-init
loop-literal-init g c =
    let e = formula_begins (map string_bytes c.args.names.now) c.args.red _ _ _ _ c.iter-literals.ensures.literals c.in-Some.ensures.steps in
    rw c.into_iter-literal-iterator.ensures.into_iter_gives
    record {
      named = other_names _ _ _ _ c.in-Some.ensures.steps (text.has_names _ _ _ c.iter-literals.ensures.literals (has_names _ _ c.requires));
      text = lacks_step (lacks_all _ _) _ e c.put_literal.ensures;
    }

pub put_literal-requires-in-loop-literal : goal.put_literal-requires-in-loop-literal
put_literal-requires-in-loop-literal g c = first_name _ _ _ _ c.in-Some-literal.ensures.steps c.loop-literal.invariant.named

pub loop-literal-preserved : goal.loop-literal-preserved
loop-literal-preserved g c =
    let e = formula_goes_on (map string_bytes c.args.names.now) c.args.red _ _ _ _ c.and_text-between.ensures c.in-Some-literal.ensures.steps in
    record {
      named = other_names _ _ _ _ c.in-Some-literal.ensures.steps c.loop-literal.invariant.named;
      text = lacks_step (lacks_step c.loop-literal.invariant.text _ e c.put-in-loop-literal.ensures) _ refl c.put_literal-in-loop-literal.ensures;
    }
