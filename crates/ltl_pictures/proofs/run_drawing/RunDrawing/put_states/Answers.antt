use Rattle.std.proofs.Common.{◌<◌, ap, arith}
use Rattle.ltl_streams.proofs.PrintLaws.{lacks_all, lacks_step, prints_nothing}
use Rattle.ltl_text.proofs.HoaLaws.{states_begin, states_go_on}
use Rattle.ltl_pictures.specs.DotText.{state_text}
use Rattle.ltl_pictures.specs.RunText.{RunPicture, is_picked, named_of, picks_in}
use Rattle.ltl_pictures.proofs.run_drawing.RunDrawing.put_states.Goals as goal

pub loop-k-init : goal.loop-k-init
loop-k-init g c =
    let P = c.args.self.now in
    lacks_step (lacks_all _ _) _ (states_begin (state_text (named_of P) (is_picked (picks_in P.run))) P.automaton.states) (prints_nothing _)

pub loop-k-preserved : goal.loop-k-preserved
loop-k-preserved g c =
    let P = c.args.self.now in
    let n = P.automaton.states in
    let same = ap (λ (x : RunPicture). x.automaton.states) c.self.view_is in
    let lt : c.loop-k.k < n = omega (arith, same) in
    lacks_step c.loop-k.invariant _ (states_go_on (state_text (named_of P) (is_picked (picks_in P.run))) n c.loop-k.k lt) c.put_state.ensures
