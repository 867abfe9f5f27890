use Rattle.std.proofs.Common.{◌≡◌, length}
use Rattle.ltl_automaton.specs.SharedView.{automaton_of}
use Rattle.ltl_passes.specs.Partitioned.{AreClassesMade}
use Rattle.ltl_passes.proofs.quotient.Partitioned.quotient.Given as goal

abbrev pub invariant-loop-class : goal.invariant-loop-class
invariant-loop-class g l = record {
  made : AreClassesMade l.self (automaton_of l.made) l.class;
  noted : length l.noted.items ≡ length l.self.names.now;
  wide : length l.lasts.items ≡ length l.self.states.now.lists;
}
