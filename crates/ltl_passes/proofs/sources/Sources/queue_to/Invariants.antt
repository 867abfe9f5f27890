use Rattle.std.proofs.Common.{◌≡◌, vec_len}
use Rattle.ltl_passes.proofs.sources.Sources.queue_to.Given as goal

abbrev pub invariant-sources : goal.invariant-sources
invariant-sources g l = vec_len l.queue.waiting ≡ vec_len l.fn.queue.waiting
