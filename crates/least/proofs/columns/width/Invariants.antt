use Rattle.std.proofs.Common.{length}
use Rattle.least.proofs.ColumnLaws.{IsWideBut}
use Rattle.least.proofs.columns.width.Given as goal

abbrev pub invariant-members : goal.invariant-members
invariant-members l = IsWideBut l.met l.rest l.width

abbrev pub decreases-members : goal.decreases-members
decreases-members l = length l.rest
