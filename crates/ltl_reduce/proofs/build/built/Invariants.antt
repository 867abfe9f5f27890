use Rattle.ltl_automaton.specs.SharedView.{automaton_of}
use Rattle.ltl_reduce.proofs.BuildLaws.{IsMaking}
use Rattle.ltl_reduce.proofs.build.built.Given as goal

abbrev pub invariant-loop-b : goal.invariant-loop-b
invariant-loop-b g l = IsMaking (automaton_of l.input.states) l.count l.initial.left (automaton_of l.made) l.b l.left
