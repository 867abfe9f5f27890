use Rattle.std.proofs.Common.{subst, sym}
use Rattle.std.specs.Prelude.{Result}
use Rattle.ltl_words.specs.declared.status.Status.{Status}
use Rattle.ltl_cli.specs.Runs.{IsTold}
use Rattle.ltl_comparison.specs.Runs.{message_with}
use Rattle.ltl_comparison.specs.declared.refusal.Refused.{Refused}
use Rattle.ltl_comparison.proofs.finish.finish.Goals as goal

pub returns-in-Err-clause-message : goal.returns-in-Err-clause-message
returns-in-Err-clause-message g c =
    subst (λ (r : Result Status Refused). IsTold (g.M.ByteSink.state c.args.message.now) (g.M.ByteSink.state c.write.new.message) (message_with r)) (sym c.in-Err.is) c.write.ensures
