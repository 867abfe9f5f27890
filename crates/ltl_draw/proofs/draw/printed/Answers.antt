use Rattle.std.proofs.lemmas.Result.{err_from_is_err_and}
use Rattle.ltl_draw.proofs.RunLaws.{named_refused, cut_off, drawn}
use Rattle.ltl_draw.proofs.draw.printed.Goals as goal

pub returns-in_err-drawing : goal.returns-in_err-drawing
returns-in_err-drawing g c =
    let (input, s, h) = c.in_err-drawing.ensures in
    let p = err_from_is_err_and c.from_residual.result c.from_residual.ensures.1 in
    (input, s, rw (p.1, p.2) (λ file. named_refused input _ c.requires.output file _ h))

pub returns-in_err-printed : goal.returns-in_err-printed
returns-in_err-printed g c =
    let (input, s, h) = c.in_ok-drawing.ensures in
    let p = err_from_is_err_and c.from_residual-in_err-printed.result c.from_residual-in_err-printed.ensures.1 in
    let w = (rw c.in_err-printed.was at c.flushed-printed.ensures.err) _ _ c.put_dot.ensures.ok c.put_dot.ensures.err in
    (input, s, rw (p.1, p.2) (λ file. cut_off input _ c.requires.output file _ _ h w))

pub returns : goal.returns
returns g c =
    let (input, s, h) = c.in_ok-drawing.ensures in
    let w = (rw c.in_ok-printed.was at c.flushed-printed.ensures.ok) _ _ c.put_dot.ensures.ok in
    (input, s, λ file. drawn input _ c.requires.output file _ _ h _ w)
