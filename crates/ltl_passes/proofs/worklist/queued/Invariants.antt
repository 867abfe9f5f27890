use Rattle.std.proofs.Common.{◌≡◌, length, vec_len}
use Rattle.ltl_passes.proofs.worklist.queued.Given as goal

abbrev pub invariant-loop-state : goal.invariant-loop-state
invariant-loop-state g l = vec_len l.queue.waiting ≡ length l.names
