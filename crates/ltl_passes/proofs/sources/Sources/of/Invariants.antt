use Rattle.std.proofs.Common.{◌≡◌, vec_len, length}
use Rattle.ltl_passes.proofs.sources.Sources.of.Given as goal

abbrev pub invariant-loop-state : goal.invariant-loop-state
invariant-loop-state g l = vec_len l.made.firsts ≡ length l.names
