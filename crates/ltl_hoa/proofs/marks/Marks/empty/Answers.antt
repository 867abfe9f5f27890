use Rattle.ltl_hoa.proofs.MarksLaws.{no_marks}
use Rattle.ltl_hoa.proofs.marks.Marks.empty.Goals as goal

pub returns : goal.returns
returns c = no_marks
