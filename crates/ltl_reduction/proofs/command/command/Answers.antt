use Rattle.std.proofs.Common.{ap₂, ◌∙◌}
use Rattle.std.proofs.lemmas.Result.{IfOk-weaker}
use Rattle.clap.specs.Words.{with_rule}
use Rattle.ltl_reduction.proofs.command.command.Goals as goal

pub returns : goal.returns
returns c =
    let one = c.in_ok-arg.ensures.shape c.flag.ensures.local ∙ ap₂ with_rule c.new.ensures.app c.flag.ensures.rule in
    IfOk-weaker c.arg-2.result _ _ (λ m added. added.shape c.value.ensures.local ∙ ap₂ with_rule one c.value.ensures.rule) c.arg-2.ensures
