use Rattle.ltl_hoa.proofs.BodyLaws.{abort_else}
use Rattle.ltl_hoa.proofs.body.Body.take.Goals as goal

pub returns-in_default : goal.returns-in_default
returns-in_default g c = abort_else c.args.place c.args.self.now _ c.args.kind c.args.text.now _ c.in_default.not-Abort c.take_at.ensures
