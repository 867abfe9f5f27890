use Rattle.std.proofs.Common.{ap, ◌∙◌}
use Rattle.std.specs.Prelude.{map, take, slice_index, slice_index_or}
use Rattle.ltl_spec.specs.Construction.Merging.{retargeted_edge}
use Rattle.ltl_automaton.specs.declared.coded_edge.CodedEdge as code
use Rattle.ltl_automaton.specs.CodedEdges.{coded_edge_of}
use Rattle.ltl_automaton.proofs.NetLaws.{took}
use Rattle.ltl_automaton.proofs.WayLaws.{take_whole}
use Rattle.ltl_passes.proofs.SignatureLaws.{index_any, retargeted_next}
use Rattle.ltl_passes.proofs.retargeting.retargeted_edges.Goals as goal

pub loop-edge-preserved : goal.loop-edge-preserved
loop-edge-preserved g c =
    let edges = c.args.edges.now in
    let i = c.loop-edge.edge-index in
    let here : code.CodedEdge = slice_index_or edges i (record { cube = 0; marks = 0; target = 0 }) in
    retargeted_next (slice_index c.args.names.now) c.loop-edge.made.items c.push.new.self.items c.with_target.result (take i edges) _ here c.loop-edge.invariant
    c.with_target.ensures c.in_ok-push.ensures.items (took edges i here c.loop-edge-test.true (index_any edges i _ _ c.loop-edge-test.true))

pub returns : goal.returns
returns g c = c.loop-edge.invariant ∙ ap (λ es. map (retargeted_edge (slice_index c.args.names.now)) (map coded_edge_of es)) (take_whole c.loop-edge.edge-index c.args.edges.now c.loop-edge-test.false)
