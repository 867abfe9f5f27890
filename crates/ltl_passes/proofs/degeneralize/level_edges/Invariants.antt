use Rattle.std.proofs.Common.{◌≡◌}
use Rattle.std.specs.Prelude.{map, take}
use Rattle.ltl_automaton.specs.CodedEdges.{coded_edge_of, tables_of}
use Rattle.ltl_passes.specs.Degeneralize.{level_edge_of, coded_level_edge}
use Rattle.ltl_passes.proofs.degeneralize.level_edges.Given as goal

abbrev pub invariant-loop-edge : goal.invariant-loop-edge
invariant-loop-edge g l = map level_edge_of l.copied.items ≡ map (coded_level_edge (tables_of l.labels) l.sets l.level) (map coded_edge_of (take l.edge-index l.edges))
