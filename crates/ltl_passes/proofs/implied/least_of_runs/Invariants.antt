use Rattle.std.proofs.Common.{length}
use Rattle.ltl_passes.proofs.RunLaws.{AreDone}
use Rattle.ltl_passes.proofs.implied.least_of_runs.Given as goal

abbrev pub invariant-runs : goal.invariant-runs
invariant-runs g l = AreDone l.labels l.edges l.rest l.kept.items

abbrev pub decreases-runs : goal.decreases-runs
decreases-runs g l = length l.rest
