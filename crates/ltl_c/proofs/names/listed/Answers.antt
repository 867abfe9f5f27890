use Rattle.std.proofs.Common.{◌∙◌, ◌<◌, subst}
use Rattle.ltl_c.proofs.StepLaws.{one_more}
use Rattle.ltl_c.proofs.names.listed.Goals as goal

pub loop-p-preserved : goal.loop-p-preserved
loop-p-preserved g c =
    one_more c.args.formula.now.names c.loop-p.p _ _ _ _ (subst (λ n. c.loop-p.p < n) c.name_count-p-end.ensures c.loop-p-test.true) c.loop-p.invariant (c.as_bytes.ensures.value ∙ c.name.ensures) c.in_ok-extend_from_slice.ensures.items c.in_ok-push.ensures.items
