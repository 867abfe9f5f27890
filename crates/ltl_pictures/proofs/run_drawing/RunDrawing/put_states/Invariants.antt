use Rattle.std.specs.Prelude.{flat_map}
use Rattle.std.specs.List.{range_with_len}
use Rattle.ltl_streams.proofs.PrintLaws.{Lacks}
use Rattle.ltl_text.proofs.HoaLaws.{states_from}
use Rattle.ltl_pictures.specs.DotText.{state_text}
use Rattle.ltl_pictures.specs.RunText.{is_picked, named_of, picks_in}
use Rattle.ltl_pictures.proofs.run_drawing.RunDrawing.put_states.Given as goal

abbrev pub invariant-loop-k : goal.invariant-loop-k
invariant-loop-k g l =
    Lacks g.S.ByteSink.state l.fn.out l.out (states_from (state_text (named_of l.self) (is_picked (picks_in l.self.run))) l.self.automaton.states l.k)
    (flat_map (state_text (named_of l.self) (is_picked (picks_in l.self.run))) (range_with_len 0 l.self.automaton.states))
