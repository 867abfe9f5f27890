use Rattle.ltl_check.proofs.OperandLaws.{generalized_marked}
use Rattle.ltl_check.proofs.operand.NamedGbaOperand.invariant.Goals as goal

pub returns : goal.returns
returns g c =
    generalized_marked c.args.self.now.gba.now c.args.self.now.formula.now.nodes c.args.self.now.formula.now.names c.invariant.ensures.inside c.invariant-2.ensures c.args.self.now.named c.args.self.now.few
