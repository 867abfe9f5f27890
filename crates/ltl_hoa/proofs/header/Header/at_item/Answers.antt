use Rattle.ltl_hoa.proofs.StepLaws.{behind_item}
use Rattle.ltl_hoa.proofs.header.Header.at_item.Goals as goal

pub returns-in_default : goal.returns-in_default
returns-in_default g c = behind_item c.args.kind c.args.text.now c.args.before c.args.self.now c.go_on.result c.in_default.not-Header (c.go_on.ensures c.args.self.now c.args.text.now)
