use Rattle.std.proofs.lemmas.Result.{err_from_is_err_and}
use Rattle.ltl_c.proofs.PictureLaws.{read_drawn, unread_drawn}
use Rattle.ltl_c.proofs.picture.drawn.Goals as goal

pub returns-in_err-drawing : goal.returns-in_err-drawing
returns-in_err-drawing g c =
    let p = err_from_is_err_and c.from_residual.result c.from_residual.ensures.1 in
    rw (p.1, p.2) (unread_drawn c.args.text.now _ c.in_err-drawing.ensures)

pub returns : goal.returns
returns g c = read_drawn c.args.text.now _ c.in_ok-drawing.ensures (λ v. v.items) c.picture_of.result c.picture_of.ensures
