use Rattle.std.proofs.Common.{◌∙◌, ap, subst, sym}
use Rattle.ltl_cli.specs.Inputs.{most_of_automaton}
use Rattle.ltl_cli.proofs.InputLaws.{unread}
use Rattle.ltl_reduction.specs.Plans.{requested}
use Rattle.ltl_reduction.specs.Runs.{IsOutcome}
use Rattle.ltl_reduction.proofs.RunLaws.{words_refused}
use Rattle.ltl_reduction.proofs.reduction.answered.Goals as goal

pub returns-then-claim : goal.returns-then-claim
returns-then-claim g c =
    let (input, s, h) = c.claimed.ensures in
    (input, s, subst (λ r. IsOutcome r input (g.S.ByteSink.state c.args.output.now) (g.S.ByteSink.state c.claimed.new.output) c.claimed.result) (sym (ap requested c.in-Ok.is)) (h _ (sym c.claim.ensures ∙ c.if-claim.true)))

pub returns-else-claim : goal.returns-else-claim
returns-else-claim g c =
    let (input, s, h) = c.printed.ensures in
    (input, s, subst (λ r. IsOutcome r input (g.S.ByteSink.state c.args.output.now) (g.S.ByteSink.state c.printed.new.output) c.printed.result) (sym (ap requested c.in-Ok.is)) (h _ (sym c.claim.ensures ∙ c.if-claim.false)))

pub returns-in-Err : goal.returns-in-Err
returns-in-Err g c =
    let (input, s) = unread most_of_automaton g.R.ByteSource.state c.args.source.now c.requires.source in
    (input, s, words_refused input _ c.requires.output (requested c.args.plan.now) _ _ (ap requested c.in-Err.is) c.of_words.ensures)
