use Rattle.std.proofs.Common.{◌≡◌, map, take}
use Rattle.ltl_automaton.specs.Net.{edges_to}
use Rattle.ltl_automaton.proofs.shared.edges_of.Given as goal

abbrev pub invariant-loop-i : goal.invariant-loop-i
invariant-loop-i g l = map g.E.EdgeType.edge_of l.edges.items ≡ edges_to (take l.i (map g.T.Step.move_of l.steps)) (take l.i l.targets)
