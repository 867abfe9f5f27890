use Rattle.ltl_passes.specs.Partition.{AreSignatures, place_signature}
use Rattle.ltl_passes.proofs.partition.state_signatures.Given as goal

abbrev pub invariant-loop-s : goal.invariant-loop-s
invariant-loop-s g l = AreSignatures l.s (place_signature l.states.states l.list_signatures) l.places.keys l.signatures.items
