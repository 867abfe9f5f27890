use Rattle.std.proofs.Common.{◌≡◌, ◌⊎◌, inl, refl, subst, sym}
use Rattle.std.proofs.lemmas.Result.{err_from_is_err_and}
use Rattle.std.specs.Prelude.{Err, Ok}
use Rattle.ltl_cli.specs.Refusals.{refusal_of}
use Rattle.ltl_cli.specs.declared.refusal.Refusal.TheVariants.{OutOfMemory}
use Rattle.ltl_pictures.specs.NamedAutomaton.{NamedAutomaton}
use Rattle.ltl_pictures.specs.RunText.{RunPicture}
use Rattle.ltl_draw.specs.Runs.{RunsOn}
use Rattle.ltl_draw.proofs.PictureLaws.{picks_there, search_refused}
use Rattle.ltl_draw.proofs.run_picture.run_drawing.Goals as goal

pub returns-in-Err : goal.returns-in-Err
returns-in-Err g c =
    let N : NamedAutomaton = record { automaton = c.named.inside.automaton; names = c.named.inside.names } in
    subst (λ (M : NamedAutomaton). (c.refused.result ≡ OutOfMemory) ⊎ RunsOn M c.args.word.now (Err (refusal_of c.refused.result))) c.named.view_is
    (search_refused N c.args.word.now _ _ c.refused.ensures c.in-Err.ensures.large)

pub new-requires : goal.new-requires
new-requires g c = picks_there c.named.inside.automaton c.args.word.now c.invariant.ensures.counted _ c.in-Ok.ensures.run

pub returns-in_err-drawing : goal.returns-in_err-drawing
returns-in_err-drawing g c =
    let p = err_from_is_err_and c.from_residual.result c.from_residual.ensures.1 in
    rw (p.1, p.2) (inl refl)

pub returns : goal.returns
returns g c =
    let N : NamedAutomaton = record { automaton = c.named.inside.automaton; names = c.named.inside.names } in
    subst (λ (M : NamedAutomaton). RunsOn M c.args.word.now (Ok c.in_ok-drawing.drawing)) c.named.view_is
    (subst (λ (P : RunPicture). RunsOn N c.args.word.now (Ok P)) (sym c.in_ok-drawing.ensures) (refl, c.in-Ok.ensures.run, c.in-Ok.ensures.fits))
