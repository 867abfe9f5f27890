use Rattle.std.proofs.Common.{◌≡◌}
use Rattle.std.specs.Prelude.{map, take, slice_index}
use Rattle.ltl_passes.proofs.partition.least_places.Given as goal

abbrev pub invariant-loop-signature : goal.invariant-loop-signature
invariant-loop-signature g l = l.names.items ≡ map (slice_index l.firsts.items) (take l.signature-index l.signatures)
