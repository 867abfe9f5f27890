use Rattle.std.proofs.Common.{refl}
use Rattle.std.proofs.lemmas.Result.{err_from_is_err_and}
use Rattle.ltl_draw.proofs.TimelineLaws.{word_ended, word_unread}
use Rattle.ltl_draw.proofs.timeline.word_shown.Goals as goal

pub returns-in_err-word : goal.returns-in_err-word
returns-in_err-word g c =
    let p = err_from_is_err_and c.from_residual.result c.from_residual.ensures.1 in
    rw (p.1, p.2) (λ input. word_unread input _ c.requires _ _ refl _ c.in_err-word.ensures)

pub returns : goal.returns
returns g c = λ input. word_ended input _ c.requires _ _ _ refl _ c.in_ok-word.ensures c.send_word.result _ c.outcome.ensures c.send_word.ensures
