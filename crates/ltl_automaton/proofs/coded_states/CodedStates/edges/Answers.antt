use Rattle.ltl_automaton.specs.CodedEdges.{table_of}
use Rattle.ltl_automaton.specs.SharedView.{automaton_of}
use Rattle.ltl_automaton.proofs.TableLaws.{state_labels}
use Rattle.ltl_automaton.proofs.coded_states.CodedStates.edges.Goals as goal

pub returns : goal.returns
returns g c = state_labels c.labels.result (table_of c.args.self.now.table) (automaton_of c.args.self.now.states) c.args.i c.edges.result.now c.labels.ensures c.edges.ensures
