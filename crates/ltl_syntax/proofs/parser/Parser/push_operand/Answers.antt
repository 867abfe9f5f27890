use Rattle.ltl_syntax.proofs.StateLemmas.{operand_pushed, operand_reader}
use Rattle.ltl_syntax.proofs.parser.Parser.push_operand.Goals as goal

pub invariant_of-self-2 : goal.invariant_of-self-2
invariant_of-self-2 g c =
    operand_pushed _ _ _ _ c.self.invariant c.args.self.now c.push.new.self.items c.args.node c.self.view_is c.in_ok-push.ensures.items c.requires.wanting c.requires.stands c.requires.leaf

pub returns-clause-reader : goal.returns-clause-reader
returns-clause-reader g c =
    operand_reader _ _ _ _ c.self.invariant c.args.self.now c.push.new.self.items c.args.node c.self.view_is c.in_ok-push.ensures.items
