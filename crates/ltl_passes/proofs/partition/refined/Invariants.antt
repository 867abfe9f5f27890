use Rattle.ltl_spec.specs.Construction.Merging as merging
use Rattle.ltl_spec.proofs.Construction.NamingLaws.{IsWithin}
use Rattle.ltl_automaton.specs.SharedView.{automaton_of}
use Rattle.ltl_passes.specs.Worklist.{AreFiner}
use Rattle.ltl_passes.proofs.partition.refined.Given as goal

abbrev pub invariant-loop-round : goal.invariant-loop-round
invariant-loop-round g l = record {
  finer : AreFiner (automaton_of l.states) l.names.items;
  reached : IsWithin (automaton_of l.states) (merging.class_names (automaton_of l.states) l.round) l.names.items;
}
