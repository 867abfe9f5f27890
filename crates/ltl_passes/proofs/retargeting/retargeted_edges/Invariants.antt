use Rattle.std.proofs.Common.{◌≡◌}
use Rattle.std.specs.Prelude.{map, take, slice_index}
use Rattle.ltl_spec.specs.Construction.Merging.{retargeted_edge}
use Rattle.ltl_automaton.specs.CodedEdges.{coded_edge_of}
use Rattle.ltl_passes.proofs.retargeting.retargeted_edges.Given as goal

abbrev pub invariant-loop-edge : goal.invariant-loop-edge
invariant-loop-edge g l = map coded_edge_of l.made.items ≡ map (retargeted_edge (slice_index l.names)) (map coded_edge_of (take l.edge-index l.edges))
