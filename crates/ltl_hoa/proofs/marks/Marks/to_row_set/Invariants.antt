use Rattle.std.proofs.Common.{length}
use Rattle.ltl_hoa.specs.MarksView.{marks_of}
use Rattle.ltl_hoa.proofs.MarksLaws.{AreTaken}
use Rattle.ltl_hoa.proofs.marks.Marks.to_row_set.Given as goal

abbrev pub invariant-sets : goal.invariant-sets
invariant-sets l = AreTaken l.numbers l.self l.left

abbrev pub decreases-sets : goal.decreases-sets
decreases-sets l = length (marks_of l.left)
