use Rattle.std.proofs.lemmas.Result.{err_from_is_err_and}
use Rattle.ltl_draw.proofs.TimelineLaws.{flush_broke}
use Rattle.ltl_draw.proofs.timeline.send_word.Goals as goal

pub returns-in_err-flush : goal.returns-in_err-flush
returns-in_err-flush g c =
    let p = err_from_is_err_and c.from_residual-in_err-flush.result c.from_residual-in_err-flush.ensures.1 in
    rw (p.1, p.2) (flush_broke _ c.in_ok-word_timeline_to.ensures c.in_err-flush.ensures)
