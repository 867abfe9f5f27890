use Rattle.std.proofs.Common.{◌≡◌, vec_len}
use Rattle.ltl_passes.proofs.worklist.queue_sources.Given as goal

abbrev pub invariant-loop-state : goal.invariant-loop-state
invariant-loop-state g l = vec_len l.queue.waiting ≡ vec_len l.fn.queue.waiting
