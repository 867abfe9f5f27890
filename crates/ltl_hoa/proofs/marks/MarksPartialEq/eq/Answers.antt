use Rattle.ltl_hoa.proofs.MarksLaws.{same_marks}
use Rattle.ltl_hoa.proofs.marks.MarksPartialEq.eq.Goals as goal

pub returns : goal.returns
returns c = rw (← c.self.view_is, ← c.other.view_is) (same_marks c.self.inside.bits c.other.inside.bits c.self.invariant c.other.invariant)
