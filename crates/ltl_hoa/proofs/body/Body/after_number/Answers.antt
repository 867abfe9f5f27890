use Rattle.ltl_hoa.proofs.BodyLaws.{number_else}
use Rattle.ltl_hoa.proofs.body.Body.after_number.Goals as goal

pub returns-in_default : goal.returns-in_default
returns-in_default g c = number_else c.args.self.now _ c.args.kind c.args.text.now _ c.in_default.not-Text c.after_name.ensures
