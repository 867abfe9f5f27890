use Rattle.std.proofs.Common.{◌∙◌, sym}
use Rattle.ltl_claim.specs.ClaimStep as step
use Rattle.ltl_claim.specs.ProgramView.{built_of}
use Rattle.ltl_claim.specs.SymbolView.{symbol_of}
use Rattle.ltl_claim.proofs.ParserLaws as laws
use Rattle.ltl_claim.proofs.parser.Parser.labelled_fault.Goals as goal

pub returns-then-begins_item : goal.returns-then-begins_item
returns-then-begins_item g c = λ all e.
    c.label_fault.ensures all ∙ sym (laws.word_label c.args.word.now (built_of all c.args.self.now.built) (step.begins_item (symbol_of c.args.symbol)) (symbol_of c.args.symbol) (sym c.begins_item.ensures ∙ c.if-begins_item.true))

pub returns-then-is_first : goal.returns-then-is_first
returns-then-is_first g c = λ all e.
    sym (laws.word_first c.args.word.now (built_of all c.args.self.now.built) (step.begins_item (symbol_of c.args.symbol)) (symbol_of c.args.symbol) (sym c.begins_item.ensures ∙ c.if-begins_item.false) (sym c.is_first.ensures ∙ c.if-is_first.true))

pub returns : goal.returns
returns g c = λ all e.
    c.plain_fault.ensures all e
    ∙ sym (laws.word_plain c.args.word.now (built_of all c.args.self.now.built) (step.begins_item (symbol_of c.args.symbol)) (symbol_of c.args.symbol) (sym c.begins_item.ensures ∙ c.if-begins_item.false) (sym c.is_first.ensures ∙ c.if-is_first.false))
