use Rattle.std.proofs.lemmas.Result.{err_from_is_err_and}
use Rattle.ltl_draw.proofs.TimelineLaws.{flush_broke}
use Rattle.ltl_draw.proofs.timeline.send_both.Goals as goal

pub returns-in_err-flush : goal.returns-in_err-flush
returns-in_err-flush g c =
    let (truth, marks, h) = c.in_ok-timeline_to.ensures in
    let p = err_from_is_err_and c.from_residual-in_err-flush.result c.from_residual-in_err-flush.ensures.1 in
    rw (p.1, p.2) (truth, marks, flush_broke _ h c.in_err-flush.ensures)
