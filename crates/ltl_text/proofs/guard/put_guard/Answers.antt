use Rattle.std.proofs.Common.{refl}
use Rattle.ltl_streams.proofs.PrintLaws.{lacks_all, lacks_last, lacks_step, prints_nothing}
use Rattle.ltl_text.proofs.TextLaws.{first_name, guard_begins, guard_ends, guard_goes_on, has_names, names_by_each, other_names}
use Rattle.ltl_text.proofs.guard.put_guard.Goals as goal

pub put-requires-3-clause-within : goal.put-requires-3-clause-within
put-requires-3-clause-within g c =
    first_name _ _ _ _ c.in-Some.ensures.steps (has_names _ _ _ c.iter-literals.ensures.literals c.requires)

pub loop-literal-init : goal.loop-literal-init
loop-literal-init g c =
    let e = guard_begins c.args.texts.now _ _ _ _ c.iter-literals.ensures.literals c.in-Some.ensures.steps in
    let opened = lacks_step (lacks_all _ _) _ e c.put-2.ensures in
    let below = names_by_each 256 c.args.cube.now c.invariant.ensures.below in
    rw c.into_iter-literal-iterator.ensures.into_iter_gives
    record {
      named = other_names _ _ _ _ c.in-Some.ensures.steps (has_names _ _ _ c.iter-literals.ensures.literals c.requires);
      below = other_names _ _ _ _ c.in-Some.ensures.steps (has_names _ _ _ c.iter-literals.ensures.literals below);
      text = lacks_step opened _ refl c.put-3.ensures;
    }

pub put-requires-in-loop-literal-2-clause-within : goal.put-requires-in-loop-literal-2-clause-within
put-requires-in-loop-literal-2-clause-within g c = first_name _ _ _ _ c.in-Some-literal.ensures.steps c.loop-literal.invariant.named

pub put-requires-in-loop-literal-2-clause-below : goal.put-requires-in-loop-literal-2-clause-below
put-requires-in-loop-literal-2-clause-below g c = first_name _ _ _ _ c.in-Some-literal.ensures.steps c.loop-literal.invariant.below

pub loop-literal-preserved : goal.loop-literal-preserved
loop-literal-preserved g c =
    let e = guard_goes_on c.args.texts.now _ _ _ c.in-Some-literal.ensures.steps in
    record {
      named = other_names _ _ _ _ c.in-Some-literal.ensures.steps c.loop-literal.invariant.named;
      below = other_names _ _ _ _ c.in-Some-literal.ensures.steps c.loop-literal.invariant.below;
      text = lacks_step (lacks_step c.loop-literal.invariant.text _ e c.put-in-loop-literal.ensures) _ refl c.put-in-loop-literal-2.ensures;
    }

pub returns : goal.returns
returns g c =
    let e = guard_ends c.args.texts.now _ c.in-None.ensures.steps.0 in
    lacks_last (lacks_step c.loop-literal.invariant.text _ e (prints_nothing _)) c.put-4.ensures
