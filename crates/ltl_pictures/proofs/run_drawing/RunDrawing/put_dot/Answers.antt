use Rattle.std.proofs.Common.{◌++◌, ◌∙◌, ap, refl, rules, sym}
use Rattle.std.specs.Prelude.{codes, flat_map}
use Rattle.std.specs.List.{range_with_len}
use Rattle.ltl_streams.proofs.PrintLaws.{lacks_all, lacks_last, lacks_step, printed_err, printed_ok}
use Rattle.ltl_pictures.specs.DotText.{head_text, state_text}
use Rattle.ltl_pictures.specs.RunText.{RunPicture, is_picked, named_of, note_of, picks_in}
use Rattle.ltl_pictures.proofs.RunLaws.{picture_pieces}
use Rattle.ltl_pictures.proofs.run_drawing.RunDrawing.put_dot.Goals as goal

pub returns-clause-ok : goal.returns-clause-ok
returns-clause-ok g c =
    let P = c.args.self.now in
    let rest = flat_map (state_text (named_of P) (is_picked (picks_in P.run))) (range_with_len 0 P.automaton.states) ++ codes "}\n" in
    let e = picture_pieces (named_of P) (is_picked (picks_in P.run)) (note_of P.run) ∙ ap (λ (x : RunPicture). head_text (named_of x) (note_of x.run) ++ rest) (sym c.self.view_is) ∙ ap (λ n. head_text (record { automaton = c.self.inside.automaton; names = c.self.inside.names }) n ++ rest) (sym c.note.ensures) in
    let first = lacks_step (lacks_all _ _) _ e c.put_head.ensures in
    let second = lacks_step first _ refl c.put_states.ensures in
    printed_ok c.new-out.ensures.whole c.new-out.ensures.empty c.new-out.ensures.now (lacks_last second c.put.ensures) _ c.end.ensures.ends (search rules)

pub returns-clause-err : goal.returns-clause-err
returns-clause-err g c =
    let P = c.args.self.now in
    let rest = flat_map (state_text (named_of P) (is_picked (picks_in P.run))) (range_with_len 0 P.automaton.states) ++ codes "}\n" in
    let e = picture_pieces (named_of P) (is_picked (picks_in P.run)) (note_of P.run) ∙ ap (λ (x : RunPicture). head_text (named_of x) (note_of x.run) ++ rest) (sym c.self.view_is) ∙ ap (λ n. head_text (record { automaton = c.self.inside.automaton; names = c.self.inside.names }) n ++ rest) (sym c.note.ensures) in
    let first = lacks_step (lacks_all _ _) _ e c.put_head.ensures in
    let second = lacks_step first _ refl c.put_states.ensures in
    printed_err c.new-out.ensures.whole c.new-out.ensures.empty c.new-out.ensures.now (lacks_last second c.put.ensures) _ c.end.ensures.ends (search rules)
