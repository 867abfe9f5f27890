use Rattle.std.proofs.Common.{ap₂, ◌∙◌}
use Rattle.std.proofs.lemmas.Result.{IfOk-weaker}
use Rattle.clap.specs.Words.{with_rule}
use Rattle.ltl_claims.proofs.command.command.Goals as goal

pub returns : goal.returns
returns c = IfOk-weaker c.arg.result _ _ (λ m added. added.shape c.value.ensures.local ∙ ap₂ with_rule c.new.ensures.app c.value.ensures.rule) c.arg.ensures
