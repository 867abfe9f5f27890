use Rattle.ltl_hoa.proofs.BodyLaws.{target_else}
use Rattle.ltl_hoa.proofs.body.Body.after_target.Goals as goal

pub returns-in_ok-file-in_default : goal.returns-in_ok-file-in_default
returns-in_ok-file-in_default g c =
    target_else c.file.new.self c.args.self.now _ c.args.kind c.args.text.now _ c.in_default.not-AndSign c.in_default.not-OpenSets c.in_ok-file-in_default.ensures c.at_edge.ensures
