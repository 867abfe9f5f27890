use Rattle.std.proofs.Common.{ap, ◌∙◌}
use Rattle.std.specs.Prelude.{map, take}
use Rattle.std.proofs.lemmas.List.{take_more}
use Rattle.ltl_spec.specs.Collections.Sets.{set_of}
use Rattle.ltl_spec.specs.Construction.Levels.{level_edge_cmp}
use Rattle.ltl_automaton.proofs.WayLaws.{take_whole}
use Rattle.ltl_automaton.specs.CodedEdges.{coded_edge_of, tables_of}
use Rattle.ltl_passes.specs.Degeneralize.{coded_level_edge}
use Rattle.ltl_passes.specs.LevelEdgeOrder.{level_edges_set}
use Rattle.ltl_passes.proofs.LevelStateLaws.{coded_next}
use Rattle.ltl_passes.proofs.degeneralize.level_edges.Goals as goal

pub loop-edge-preserved : goal.loop-edge-preserved
loop-edge-preserved g c =
    coded_next (tables_of c.args.labels.now) c.args.sets c.args.level c.loop-edge.copied.items c.push.new.self.items c.level_edge.result (take c.loop-edge.edge-index c.args.edges.now) _ _ c.loop-edge.invariant
    c.level_edge.ensures.lifted c.in_ok-push.ensures.items (take_more c.args.edges.now c.loop-edge.edge-index _ c.loop-edge-test.true)

pub returns : goal.returns
returns g c =
    let lift = coded_level_edge (tables_of c.args.labels.now) c.args.sets c.args.level in
    record { set = level_edges_set c.sort_dedup.new.items.items c.loop-edge.copied.items c.sort_dedup.ensures ∙ ap (set_of level_edge_cmp) (c.loop-edge.invariant ∙ ap (λ es. map lift (map coded_edge_of es)) (take_whole c.loop-edge.edge-index c.args.edges.now c.loop-edge-test.false)) }
