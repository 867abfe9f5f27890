use Rattle.std.specs.Prelude.{slice_index}
use Rattle.ltl_passes.specs.Partition.{AreSignatures, list_view}
use Rattle.ltl_passes.proofs.partition.list_signatures_under.Given as goal

abbrev pub invariant-loop-list : goal.invariant-loop-list
invariant-loop-list g l = AreSignatures l.list (list_view l.states.lists (slice_index l.names)) l.seen.keys l.signatures.items
