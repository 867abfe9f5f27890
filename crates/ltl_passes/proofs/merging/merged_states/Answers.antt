use Rattle.ltl_automaton.specs.CodedEdges.{table_of}
use Rattle.ltl_automaton.specs.SharedView.{automaton_of}
use Rattle.ltl_passes.proofs.LabelledPasses.{within_coded}
use Rattle.ltl_passes.proofs.merging.merged_states.Goals as goal

pub merged-requires-clause-within : goal.merged-requires-clause-within
merged-requires-clause-within g c = within_coded (table_of c.args.input.now.table) (automaton_of c.args.input.now.states) c.requires.within
