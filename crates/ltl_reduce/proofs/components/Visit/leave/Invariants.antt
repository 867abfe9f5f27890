use Rattle.std.proofs.Common.{length}
use Rattle.ltl_reduce.proofs.components.Visit.leave.Given as goal

abbrev pub decreases-members : goal.decreases-members
decreases-members g l = length l.self.open.items
