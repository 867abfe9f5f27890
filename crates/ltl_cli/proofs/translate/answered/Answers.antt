use Rattle.std.proofs.Common.{refl}
use Rattle.std.proofs.lemmas.Result.{err_from_is_err_and}
use Rattle.ltl_spec.specs.Tools.Refusal.{Translator}
use Rattle.ltl_words.specs.declared.status.Status.TheVariants.{Done}
use Rattle.ltl_cli.specs.Inputs.{most_taken}
use Rattle.ltl_cli.proofs.InputLaws.{unread}
use Rattle.ltl_cli.proofs.RunLaws.{outcome_broken, outcome_done, outcome_refused, words_refused}
use Rattle.ltl_cli.proofs.TranslationLaws.{translator_decides}
use Rattle.ltl_cli.proofs.translate.answered.Goals as goal

pub returns-in-Err : goal.returns-in-Err
returns-in-Err g c =
    let (input, s) = unread most_taken g.R.ByteSource.state c.args.source.now c.requires.source in
    (input, s, λ file. words_refused Translator c.args.plan.now input file _ _ _ c.requires.output c.in-Err.is c.of_words.ensures)

pub returns-in_err-translated : goal.returns-in_err-translated
returns-in_err-translated g c =
    let (input, s, h) = c.in_err-translated.ensures.found in
    let p = err_from_is_err_and c.from_residual.result c.from_residual.ensures.1 in
    (input, s, rw (c.in-Ok.is, p.1, p.2) (λ file. outcome_refused (translator_decides c.in-Ok.plan input file) _ _ c.requires.output h))

pub returns-in_err-printed : goal.returns-in_err-printed
returns-in_err-printed g c =
    let (input, s, h) = c.in_ok-translated.ensures.found in
    let p = err_from_is_err_and c.from_residual-in_err-printed.result c.from_residual-in_err-printed.ensures.1 in
    let w = (rw c.in_err-printed.was at c.flushed-printed.ensures.err) _ _ c.put.ensures.ok c.put.ensures.err in
    (input, s, rw (c.in-Ok.is, p.1, p.2) (λ file. outcome_broken (translator_decides c.in-Ok.plan input file) _ _ _ c.requires.output h w))

pub returns : goal.returns
returns g c =
    let (input, s, h) = c.in_ok-translated.ensures.found in
    let w = (rw c.in_ok-printed.was at c.flushed-printed.ensures.ok) _ _ c.put.ensures.ok in
    (input, s, rw c.in-Ok.is (λ file. outcome_done (translator_decides c.in-Ok.plan input file) _ _ _ Done c.requires.output h w refl))
