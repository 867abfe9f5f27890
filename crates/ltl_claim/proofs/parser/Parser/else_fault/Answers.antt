use Rattle.std.proofs.Common.{◌∙◌, ap, sym, Bool, Some, None}
use Rattle.std.specs.Prelude.{if◌then◌else◌}
use Rattle.ltl_claim.specs.ClaimFault as fault
use Rattle.ltl_claim.specs.ClaimStep as step
use Rattle.ltl_claim.specs.ParserView.{ParserView}
use Rattle.ltl_claim.specs.ProgramView.{built_of}
use Rattle.ltl_claim.specs.SymbolView.{symbol_of}
use Rattle.ltl_claim.proofs.ParserLaws as laws
use Rattle.ltl_claim.proofs.parser.Parser.else_fault.Goals as goal

pub returns-then-not-is_first : goal.returns-then-not-is_first
returns-then-not-is_first g c = λ all.
    c.number_fault.ensures all ∙ sym (laws.else_other (step.begins_item (symbol_of c.args.symbol)) (symbol_of c.args.symbol) (built_of all c.args.self.now.built) (sym c.is_first.ensures ∙ c.if-not-is_first.true))

pub returns-then-has_otherwise : goal.returns-then-has_otherwise
returns-then-has_otherwise g c = λ all.
    ap (λ (x : Bool). if x then Some fault.ElseTwice else None) (sym c.if-has_otherwise.true ∙ c.has_otherwise.ensures all ∙ ap (λ (v : ParserView). step.has_otherwise (built_of all v.built)) c.self.view_is)
    ∙ sym (laws.else_first (step.begins_item (symbol_of c.args.symbol)) (symbol_of c.args.symbol) (built_of all c.args.self.now.built) (sym c.is_first.ensures ∙ c.if-not-is_first.false))

pub returns : goal.returns
returns g c = λ all.
    ap (λ (x : Bool). if x then Some fault.ElseTwice else None) (sym c.if-has_otherwise.false ∙ c.has_otherwise.ensures all ∙ ap (λ (v : ParserView). step.has_otherwise (built_of all v.built)) c.self.view_is)
    ∙ sym (laws.else_first (step.begins_item (symbol_of c.args.symbol)) (symbol_of c.args.symbol) (built_of all c.args.self.now.built) (sym c.is_first.ensures ∙ c.if-not-is_first.false))
