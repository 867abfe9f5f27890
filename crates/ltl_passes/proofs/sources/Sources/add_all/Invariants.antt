use Rattle.std.proofs.Common.{◌≡◌, vec_len}
use Rattle.ltl_passes.proofs.sources.Sources.add_all.Given as goal

abbrev pub invariant-loop-edge : goal.invariant-loop-edge
invariant-loop-edge g l = vec_len l.self.firsts ≡ vec_len l.fn.self.firsts
