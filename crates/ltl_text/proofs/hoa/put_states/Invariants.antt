use Rattle.std.proofs.Common.{length}
use Rattle.ltl_spec.specs.Automata.HoaText.{state_lines}
use Rattle.ltl_text.specs.HoaPieces.{states_text}
use Rattle.ltl_streams.proofs.PrintLaws.{Lacks}
use Rattle.ltl_text.proofs.HoaLaws.{states_from}
use Rattle.ltl_text.proofs.hoa.put_states.Given as goal

abbrev pub invariant-loop-k : goal.invariant-loop-k
invariant-loop-k g l =
    Lacks g.S.ByteSink.state l.fn.output l.output (states_from (state_lines l.automaton) (length l.automaton.states) l.k) (states_text l.automaton)
