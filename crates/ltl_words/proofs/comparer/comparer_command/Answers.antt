use Rattle.std.proofs.Common.{ap₂, ◌∙◌}
use Rattle.std.proofs.lemmas.Result.{IfOk-weaker}
use Rattle.clap.specs.Words.{with_rule}
use Rattle.ltl_words.proofs.comparer.comparer_command.Goals as goal

pub returns : goal.returns
returns c =
    let one = c.in_ok-arg.ensures.shape c.value.ensures.local ∙ ap₂ with_rule c.new.ensures.app c.value.ensures.rule in
    let two = c.in_ok-arg-2.ensures.shape c.value-2.ensures.local ∙ ap₂ with_rule one c.value-2.ensures.rule in
    let three = c.in_ok-arg-3.ensures.shape c.value-3.ensures.local ∙ ap₂ with_rule two c.value-3.ensures.rule in
    IfOk-weaker c.arg-4.result _ _ (λ m added. added.shape c.value-4.ensures.local ∙ ap₂ with_rule three c.value-4.ensures.rule) c.arg-4.ensures
