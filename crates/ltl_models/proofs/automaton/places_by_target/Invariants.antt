use Rattle.std.proofs.Common.{◌≤◌, ◌^◌}
use Rattle.std.specs.Prelude.{map}
use Rattle.ltl_automaton.specs.CodedEdges.{coded_edge_of}
use Rattle.ltl_models.proofs.PlacedLaws.{IsPlaced}
use Rattle.ltl_models.proofs.automaton.places_by_target.Given as goal

abbrev pub invariant-loop-place : goal.invariant-loop-place
invariant-loop-place g l = IsPlaced (map coded_edge_of l.edges) l.place l.keys.items × l.place ≤ 2 ^ 32
