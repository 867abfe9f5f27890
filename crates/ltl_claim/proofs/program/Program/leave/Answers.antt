use Rattle.ltl_claim.proofs.ProgramLaws as laws
use Rattle.ltl_claim.proofs.program.Program.leave.Goals as goal

pub returns : goal.returns
returns g c = laws.leave_acts c.args.inside c.args.self.now c.jump.new.self c.jump.result c.may_leave.result c.if-not-may_leave.false c.may_leave.ensures c.jump.ensures
