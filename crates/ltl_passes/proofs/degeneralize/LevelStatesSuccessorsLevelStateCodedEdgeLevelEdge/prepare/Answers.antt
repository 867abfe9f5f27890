use Rattle.std.proofs.Common.{◌≡◌, map, subst}
use Rattle.ltl_automaton.specs.CodedEdges.{tables_of}
use Rattle.ltl_automaton.specs.SharedView.{automaton_of}
use Rattle.ltl_passes.specs.Degeneralize.{coded_level_net, level_move}
use Rattle.ltl_passes.proofs.LevelStateLaws.{made_successors}
use Rattle.ltl_passes.proofs.degeneralize.LevelStatesSuccessorsLevelStateCodedEdgeLevelEdge.prepare.Goals as goal

pub returns-in_ok-level_edges-clause-lent : goal.returns-in_ok-level_edges-clause-lent
returns-in_ok-level_edges-clause-lent g c =
    let A = automaton_of c.args.self.now.states.now in
    let t = tables_of c.args.self.now.labels in
    let xs = c.level_edges.new.copied.items in
    subst (λ p. map level_move xs ≡ (coded_level_net t A).successors p) c.key.view_is (made_successors t A c.sets.result (record { state = c.key.inside.state; level = c.key.inside.level }) c.edges.result.now xs c.sets.ensures c.edges.ensures c.in_ok-level_edges.ensures.set)
