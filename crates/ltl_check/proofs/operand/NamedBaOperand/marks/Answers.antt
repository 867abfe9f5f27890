use Rattle.std.proofs.Common.{sym, ◌∙◌, ap}
use Rattle.ltl_check.proofs.OperandLaws.{marks_named, set_of_leaving}
use Rattle.ltl_check.proofs.operand.NamedBaOperand.marks.Goals as goal

pub returns-then-accepting : goal.returns-then-accepting
returns-then-accepting g c =
    c.single.ensures
    ∙ ap set_of_leaving (sym c.if-accepting.true ∙ c.accepting.ensures)
    ∙ sym (marks_named c.args.self.now.ba.now c.args.self.now.formula.now.names c.args.s c.requires.own _ c.requires.inside)

pub returns-else-accepting : goal.returns-else-accepting
returns-else-accepting g c =
    c.empty.ensures
    ∙ ap set_of_leaving (sym c.if-accepting.false ∙ c.accepting.ensures)
    ∙ sym (marks_named c.args.self.now.ba.now c.args.self.now.formula.now.names c.args.s c.requires.own _ c.requires.inside)
