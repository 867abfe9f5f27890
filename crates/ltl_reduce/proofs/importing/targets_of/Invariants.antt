use Rattle.std.proofs.Common.{◌≡◌, map, take}
use Rattle.ltl_hoa.specs.MarkedView.{edge_of}
use Rattle.ltl_reduce.specs.Importing.{numbers_of}
use Rattle.ltl_reduce.proofs.importing.targets_of.Given as goal

abbrev pub invariant-loop-edge : goal.invariant-loop-edge
invariant-loop-edge g l = l.targets.items ≡ numbers_of l.start (map edge_of (take l.edge-index l.edges))
