use Rattle.ltl_hoa.proofs.BodyLaws.{name_else}
use Rattle.ltl_hoa.proofs.body.Body.after_name.Goals as goal

pub returns-in_default : goal.returns-in_default
returns-in_default g c = name_else c.args.self.now _ c.args.kind c.args.text.now _ c.in_default.not-OpenSets c.at_edge.ensures
