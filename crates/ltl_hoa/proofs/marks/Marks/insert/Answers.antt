use Rattle.std.proofs.Common.{arith, refl}
use Rattle.ltl_hoa.proofs.MarksLaws.{marks_put}
use Rattle.ltl_hoa.proofs.marks.Marks.insert.Goals as goal

pub returns : goal.returns
returns c = rw (← c.self.view_is) (marks_put c.self.inside.bits c.args.i _ (omega (arith, c.self.invariant)) c.requires refl)
