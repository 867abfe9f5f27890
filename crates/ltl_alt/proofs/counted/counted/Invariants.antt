use Rattle.std.proofs.Common.{◌-◌, length}
use Rattle.ltl_sets.specs.declared.row_set.TheConstants.RowSet.{LIMIT}
use Rattle.ltl_alt.specs.CountedView.{IsRound}
use Rattle.ltl_alt.proofs.counted.counted.Given as goal

abbrev pub invariant-rounds : goal.invariant-rounds
invariant-rounds g l = IsRound l.table l.counted l.next

abbrev pub decreases-rounds : goal.decreases-rounds
decreases-rounds g l = LIMIT - length l.counted
