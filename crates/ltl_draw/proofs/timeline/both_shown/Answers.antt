use Rattle.std.proofs.lemmas.Result.{err_from_is_err_and}
use Rattle.std.specs.Prelude.{Err, Ok}
use Rattle.ltl_draw.proofs.TimelineLaws.{both_ended, formula_step, formula_unread, word_beside_unread}
use Rattle.ltl_draw.proofs.timeline.both_shown.Goals as goal

pub returns-in_err-read : goal.returns-in_err-read
returns-in_err-read g c =
    let p = err_from_is_err_and c.from_residual.result c.from_residual.ensures.1 in
    rw (p.1, p.2) (λ input. formula_unread input _ c.requires _ _ _ (formula_step _ _ c.as_bytes.ensures.value (Err _) c.in_err-read.ensures.step))

pub returns-in_err-word : goal.returns-in_err-word
returns-in_err-word g c =
    let p = err_from_is_err_and c.from_residual-in_err-word.result c.from_residual-in_err-word.ensures.1 in
    let reads = formula_step _ _ c.as_bytes.ensures.value (Ok c.in_ok-read.read) c.in_ok-read.ensures.step in
    rw (p.1, p.2) (λ input. word_beside_unread input _ c.requires _ _ c.in_ok-read.read reads _ c.in_err-word.ensures)

pub returns : goal.returns
returns g c =
    let reads = formula_step _ _ c.as_bytes.ensures.value (Ok c.in_ok-read.read) c.in_ok-read.ensures.step in
    λ input. both_ended input _ c.requires _ _ _ c.in_ok-read.read c.invariant.ensures reads c.in_ok-word.word c.in_ok-word.ensures c.send_both.result _ c.outcome.ensures c.send_both.ensures
