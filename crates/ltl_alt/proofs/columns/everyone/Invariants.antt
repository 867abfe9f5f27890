use Rattle.ltl_alt.proofs.ColumnLaws.{HasBelow}
use Rattle.ltl_alt.proofs.columns.everyone.Given as goal

abbrev pub invariant-pairs : goal.invariant-pairs
invariant-pairs l = HasBelow l.j l.column
