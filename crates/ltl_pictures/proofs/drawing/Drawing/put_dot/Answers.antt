use Rattle.ltl_pictures.proofs.RunLaws.{plain_text}
use Rattle.ltl_pictures.proofs.drawing.Drawing.put_dot.Goals as goal

pub returns-clause-ok : goal.returns-clause-ok
returns-clause-ok g c = rw (← c.self.view_is, ← plain_text c.self.inside.drawing c.self.invariant) c.put_dot.ensures.ok

pub returns-clause-err : goal.returns-clause-err
returns-clause-err g c = rw (← c.self.view_is, ← plain_text c.self.inside.drawing c.self.invariant) c.put_dot.ensures.err
