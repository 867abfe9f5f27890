use Rattle.std.proofs.Common.{◌≡◌}
use Rattle.std.specs.Prelude.{map, take}
use Rattle.ltl_automaton.specs.CodedEdges.{coded_edge_of}
use Rattle.ltl_reduce.specs.StateBased.{bare_coded}
use Rattle.ltl_reduce.proofs.state_based.bare.Given as goal

abbrev pub invariant-loop-edge : goal.invariant-loop-edge
invariant-loop-edge g l = map coded_edge_of l.made.items ≡ map bare_coded (map coded_edge_of (take l.edge-index l.edges))
