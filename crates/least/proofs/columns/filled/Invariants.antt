use Rattle.least.proofs.ColumnLaws.{AreFilledTo}
use Rattle.least.proofs.columns.filled.Given as goal

abbrev pub invariant-octets : goal.invariant-octets
invariant-octets g l = AreFilledTo l.sets l.k l.columns.items
