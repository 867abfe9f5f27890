use Rattle.ltl_claim.proofs.OpenLaws.{open_added}
use Rattle.ltl_claim.proofs.program.Program.state.Goals as goal

pub invariant_of-self-2 : goal.invariant_of-self-2
invariant_of-self-2 g c =
    (c.self-2.invariant.0, open_added _ c.self-2.inside.loops c.self-2.inside.selections.items c.self-2.inside.statements.items c.push.new.self.items c.in_ok-push.ensures.items c.self-2.invariant.1)
