use Rattle.ltl_automaton.specs.SharedView.{automaton_of}
use Rattle.ltl_reduce.specs.StateBased.{level_in}
use Rattle.ltl_reduce.proofs.StateBasedLaws.{AreBased}
use Rattle.ltl_reduce.proofs.state_based.state_based.Given as goal

abbrev pub invariant-loop-s : goal.invariant-loop-s
invariant-loop-s g l = AreBased l.automaton (automaton_of l.input.states) (level_in l.levels) (automaton_of l.made) l.s
