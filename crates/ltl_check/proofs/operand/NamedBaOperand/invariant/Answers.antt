use Rattle.ltl_check.proofs.OperandLaws.{named_marked}
use Rattle.ltl_check.proofs.operand.NamedBaOperand.invariant.Goals as goal

pub returns : goal.returns
returns g c =
    named_marked c.args.self.now.ba.now c.args.self.now.formula.now.nodes c.args.self.now.formula.now.names c.invariant.ensures c.invariant-2.ensures c.args.self.now.named
