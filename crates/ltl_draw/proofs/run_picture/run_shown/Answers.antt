use Rattle.std.proofs.lemmas.Result.{err_from_is_err_and}
use Rattle.ltl_cli.specs.Inputs.{most_of_automaton}
use Rattle.ltl_cli.proofs.InputLaws.{unread_whole}
use Rattle.ltl_draw.proofs.PictureLaws.{run_named_refused, run_cut_off, run_drawn, run_search_refused, run_word_refused}
use Rattle.ltl_draw.proofs.run_picture.run_shown.Goals as goal

pub returns-in_err-word : goal.returns-in_err-word
returns-in_err-word g c =
    let (input, s, n) = unread_whole most_of_automaton g.R.ByteSource.state c.args.source.now c.requires.source in
    let p = err_from_is_err_and c.from_residual.result c.from_residual.ensures.1 in
    (input, s, rw (p.1, p.2) (λ file. run_word_refused input _ c.requires.output _ file n _ c.in_err-word.ensures))

pub returns-in_err-named : goal.returns-in_err-named
returns-in_err-named g c =
    let (input, s, h) = c.in_err-named.ensures in
    let p = err_from_is_err_and c.from_residual-in_err-named.result c.from_residual-in_err-named.ensures.1 in
    (input, s, rw (p.1, p.2) (λ file. run_named_refused input _ c.requires.output _ file _ c.in_ok-word.ensures _ h))

pub returns-in_err-drawing : goal.returns-in_err-drawing
returns-in_err-drawing g c =
    let (input, s, h) = c.in_ok-named.ensures in
    let p = err_from_is_err_and c.from_residual-in_err-drawing.result c.from_residual-in_err-drawing.ensures.1 in
    (input, s, rw (p.1, p.2) (λ file. run_search_refused input _ c.requires.output _ file _ c.in_ok-word.ensures _ h _ c.in_err-drawing.ensures))

pub returns-in_err-printed : goal.returns-in_err-printed
returns-in_err-printed g c =
    let (input, s, h) = c.in_ok-named.ensures in
    let p = err_from_is_err_and c.from_residual-in_err-printed.result c.from_residual-in_err-printed.ensures.1 in
    let w = (rw c.in_err-printed.was at c.flushed-printed.ensures.err) _ _ c.put_dot.ensures.ok c.put_dot.ensures.err in
    (input, s, rw (p.1, p.2) (λ file. run_cut_off input _ c.requires.output _ file _ c.in_ok-word.ensures _ h _ _ c.in_ok-drawing.ensures w))

pub returns : goal.returns
returns g c =
    let (input, s, h) = c.in_ok-named.ensures in
    let w = (rw c.in_ok-printed.was at c.flushed-printed.ensures.ok) _ _ c.put_dot.ensures.ok in
    (input, s, λ file. run_drawn input _ c.requires.output _ file _ c.in_ok-word.ensures _ h _ _ c.in_ok-drawing.ensures _ w)
