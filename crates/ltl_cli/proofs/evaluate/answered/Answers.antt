use Rattle.std.proofs.Common.{refl, sym}
use Rattle.std.proofs.lemmas.Result.{err_from_is_err_and}
use Rattle.ltl_spec.specs.Tools.Refusal.{Evaluator}
use Rattle.ltl_words.specs.declared.status.Status.TheVariants.{Done, Violated}
use Rattle.ltl_cli.specs.Inputs.{most_taken}
use Rattle.ltl_cli.proofs.EvaluationLaws.{evaluator_decides, no_word}
use Rattle.ltl_cli.proofs.InputLaws.{unread}
use Rattle.ltl_cli.proofs.RunLaws.{outcome_broken, outcome_done, outcome_refused, words_refused}
use Rattle.ltl_cli.proofs.evaluate.answered.Goals as goal

pub returns-in-Err : goal.returns-in-Err
returns-in-Err g c =
    let (input, s) = unread most_taken g.R.ByteSource.state c.args.source.now c.requires.source in
    (input, s, λ file. words_refused Evaluator c.args.plan.now input file _ _ _ c.requires.output c.in-Err.is c.of_words.ensures)

pub returns-in-None : goal.returns-in-None
returns-in-None g c =
    let (input, s) = unread most_taken g.R.ByteSource.state c.args.source.now c.requires.source in
    (input, s, rw c.in-Ok.is (λ file. no_word c.in-Ok.plan input file _ c.requires.output (sym (rw c.in-None.is at c.word.ensures))))

pub returns-in_err-truth : goal.returns-in_err-truth
returns-in_err-truth g c =
    let (input, s, h) = c.in_err-truth.ensures in
    let p = err_from_is_err_and c.from_residual.result c.from_residual.ensures.1 in
    let word = sym (rw c.in-Some.is at c.word.ensures) in
    (input, s, rw (c.in-Ok.is, p.1, p.2) (λ file. outcome_refused (evaluator_decides c.in-Ok.plan c.in-Some.text.now input file word) _ _ c.requires.output h))

pub returns-in_err-flushed : goal.returns-in_err-flushed
returns-in_err-flushed g c =
    let (input, s, h) = c.in_ok-truth.ensures in
    let p = err_from_is_err_and c.from_residual-in_err-flushed.result c.from_residual-in_err-flushed.ensures.1 in
    let word = sym (rw c.in-Some.is at c.word.ensures) in
    let w = rw c.line.ensures at (c.in_err-flushed.ensures.err _ _ c.write_whole.ensures.ok c.write_whole.ensures.err) in
    (input, s, rw (c.in-Ok.is, p.1, p.2) (λ file. outcome_broken (evaluator_decides c.in-Ok.plan c.in-Some.text.now input file word) _ _ _ c.requires.output h w))

pub returns-then-truth : goal.returns-then-truth
returns-then-truth g c =
    let (input, s, h) = c.in_ok-truth.ensures in
    let word = sym (rw c.in-Some.is at c.word.ensures) in
    let w = rw c.line.ensures at (c.in_ok-flushed.ensures.ok _ _ c.write_whole.ensures.ok) in
    (input, s, rw c.in-Ok.is (λ file. outcome_done (evaluator_decides c.in-Ok.plan c.in-Some.text.now input file word) _ _ _ Done c.requires.output h w (rw c.if-truth.true refl)))

pub returns : goal.returns
returns g c =
    let (input, s, h) = c.in_ok-truth.ensures in
    let word = sym (rw c.in-Some.is at c.word.ensures) in
    let w = rw c.line.ensures at (c.in_ok-flushed.ensures.ok _ _ c.write_whole.ensures.ok) in
    (input, s, rw c.in-Ok.is (λ file. outcome_done (evaluator_decides c.in-Ok.plan c.in-Some.text.now input file word) _ _ _ Violated c.requires.output h w (rw c.if-truth.false refl)))
