use Rattle.std.proofs.Common.{inl, subst}
use Rattle.std.proofs.lemmas.Result.{err_from_is_err_and}
use Rattle.ltl_spec.specs.Tools.Limits.{stated_limits}
use Rattle.ltl_spec.specs.Tools.Programs.{ReadsWord}
use Rattle.ltl_cli.specs.Refusals.{TakesStep}
use Rattle.ltl_draw.proofs.timeline.word_alone.Goals as goal

pub returns-in_err-formula : goal.returns-in_err-formula
returns-in_err-formula g c =
    let p = err_from_is_err_and c.from_residual.result c.from_residual.ensures.1 in
    rw (p.1, p.2) (inl c.in_err-formula.ensures.memory)

pub returns : goal.returns
returns g c = subst (λ ns. TakesStep (ReadsWord stated_limits ns c.args.text.now) (λ w. w) c.word_of.result) c.in_ok-formula.ensures.names c.word_of.ensures
