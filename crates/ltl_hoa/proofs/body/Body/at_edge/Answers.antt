use Rattle.ltl_hoa.proofs.BodyLaws.{edge_else}
use Rattle.ltl_hoa.proofs.body.Body.at_edge.Goals as goal

pub returns-in_default : goal.returns-in_default
returns-in_default g c = edge_else c.args.self.now _ c.args.kind c.args.text.now _ c.in_default.not-Int c.in_default.not-OpenLabel (c.at_state.ensures c.args.self.now)
