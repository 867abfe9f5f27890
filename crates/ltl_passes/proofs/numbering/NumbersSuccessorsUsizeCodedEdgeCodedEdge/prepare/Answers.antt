use Rattle.ltl_automaton.specs.SharedView.{automaton_of}
use Rattle.ltl_passes.proofs.RenumberLaws.{lent_successors}
use Rattle.ltl_passes.proofs.numbering.NumbersSuccessorsUsizeCodedEdgeCodedEdge.prepare.Goals as goal

pub returns-then-key-len-clause-lent : goal.returns-then-key-len-clause-lent
returns-then-key-len-clause-lent g c = lent_successors (automaton_of c.args.self.now.states.now) c.args.key.now c.edges-self.result.now c.edges-self.ensures
