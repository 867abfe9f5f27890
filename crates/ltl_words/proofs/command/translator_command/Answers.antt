use Rattle.std.proofs.Common.{ap₂, ◌∙◌}
use Rattle.std.proofs.lemmas.Result.{IfOk-weaker}
use Rattle.clap.specs.Words.{with_rule}
use Rattle.ltl_words.proofs.command.translator_command.Goals as goal

pub returns : goal.returns
returns c =
    let one = c.in_ok-arg.ensures.shape c.flag.ensures.local ∙ ap₂ with_rule c.new.ensures.app c.flag.ensures.rule in
    let two = c.in_ok-arg-2.ensures.shape c.flag-2.ensures.local ∙ ap₂ with_rule one c.flag-2.ensures.rule in
    let three = c.in_ok-arg-3.ensures.shape c.flag-3.ensures.local ∙ ap₂ with_rule two c.flag-3.ensures.rule in
    let four = c.in_ok-arg-4.ensures.shape c.flag-4.ensures.local ∙ ap₂ with_rule three c.flag-4.ensures.rule in
    let five = c.in_ok-arg-5.ensures.shape c.flag-5.ensures.local ∙ ap₂ with_rule four c.flag-5.ensures.rule in
    let six = c.in_ok-arg-6.ensures.shape c.value.ensures.local ∙ ap₂ with_rule five c.value.ensures.rule in
    IfOk-weaker c.arg-7.result _ _ (λ m added. added.shape c.value-2.ensures.local ∙ ap₂ with_rule six c.value-2.ensures.rule) c.arg-7.ensures
