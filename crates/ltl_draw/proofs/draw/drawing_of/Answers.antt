use Rattle.std.proofs.Common.{◌∙◌, inl, refl, subst, sym}
use Rattle.std.proofs.lemmas.Result.{err_from_is_err_and}
use Rattle.std.specs.Prelude.{Ok}
use Rattle.ltl_pictures.specs.NamedAutomaton.{NamedAutomaton}
use Rattle.ltl_draw.specs.Runs.{ReadsNamed}
use Rattle.ltl_draw.proofs.NamedLaws.{read_whole}
use Rattle.ltl_draw.proofs.draw.drawing_of.Goals as goal

pub returns-in_err-named : goal.returns-in_err-named
returns-in_err-named g c =
    let (input, s, h) = c.in_err-named.ensures in
    let p = err_from_is_err_and c.from_residual.result c.from_residual.ensures.1 in
    rw (p.1, p.2) (input, s, h)

pub returns-in_err-drawing : goal.returns-in_err-drawing
returns-in_err-drawing g c =
    let (input, s, h) = c.in_ok-named.ensures in
    let p = err_from_is_err_and c.from_residual-in_err-drawing.result c.from_residual-in_err-drawing.ensures.1 in
    rw (p.1, p.2) (input, s, inl (refl, read_whole input _ h))

pub returns : goal.returns
returns g c =
    let (input, s, h) = c.in_ok-named.ensures in
    (input, s, subst (λ (N : NamedAutomaton). ReadsNamed input (Ok N)) (sym (c.in_ok-drawing.ensures ∙ c.named.view_is)) h)
