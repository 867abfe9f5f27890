use Rattle.std.proofs.Common.{map}
use Rattle.ltl_claim.specs.ProgramView.{label_of}
use Rattle.ltl_claim.proofs.WayLaws.{TablesTo}
use Rattle.ltl_claim.proofs.resolve.tables.Given as goal

abbrev pub invariant-statements : goal.invariant-statements
invariant-statements g l = TablesTo l.statements (map (label_of (λ n. n.now)) l.labels.entries) l.nearest_ones.items l.after.items l.i
