use Rattle.std.proofs.Common.{length}
use Rattle.least.proofs.BlockLaws.{AreLeftBut}
use Rattle.least.proofs.block.without_columns.Given as goal

abbrev pub invariant-elements : goal.invariant-elements
invariant-elements g l = AreLeftBut l.fn.all l.columns l.elements l.rest l.left

abbrev pub decreases-elements : goal.decreases-elements
decreases-elements g l = length l.rest
