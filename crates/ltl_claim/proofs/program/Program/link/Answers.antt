use Rattle.ltl_claim.proofs.OpenLaws.{open_next, open_option_next}
use Rattle.ltl_claim.proofs.program.Program.link.Goals as goal

pub invariant_of-self-in-BehindStatement : goal.invariant_of-self-in-BehindStatement
invariant_of-self-in-BehindStatement g c =
    (c.self.invariant.0, open_next _ c.in-BehindStatement.i c.self.inside.loops c.self.inside.selections.items c.self.inside.statements.items c.set_next.new.statements.items c.set_next.ensures c.self.invariant.1)

pub invariant_of-self-in-WithinOption : goal.invariant_of-self-in-WithinOption
invariant_of-self-in-WithinOption g c =
    (c.self.invariant.0, open_option_next _ c.in-WithinOption.j c.in-WithinOption.i c.self.inside.loops c.self.inside.selections.items c.self.inside.statements.items c.set_option_next.new.statements.items c.set_option_next.ensures c.self.invariant.1)
