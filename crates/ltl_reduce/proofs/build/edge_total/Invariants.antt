use Rattle.std.proofs.Common.{◌≤◌}
use Rattle.ltl_reduce.proofs.BuildLaws.{count_to}
use Rattle.ltl_reduce.proofs.build.edge_total.Given as goal

abbrev pub invariant-loop-s : goal.invariant-loop-s
invariant-loop-s g l = l.total ≤ count_to l.automaton l.s
