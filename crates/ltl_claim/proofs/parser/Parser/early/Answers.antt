use Rattle.std.proofs.Common.{◌∙◌, sym}
use Rattle.ltl_claim.specs.ClaimStep as step
use Rattle.ltl_claim.specs.ProgramView.{built_of}
use Rattle.ltl_claim.specs.SymbolView.{symbol_of}
use Rattle.ltl_claim.proofs.ParserLaws as laws
use Rattle.ltl_claim.proofs.parser.Parser.early.Goals as goal

pub returns-in_default : goal.returns-in_default
returns-in_default g c = λ all e.
    c.number_fault.ensures all
    ∙ sym (laws.fitting_other c.args.labels (step.begins_item (symbol_of c.args.symbol)) (symbol_of c.args.symbol) c.args.token.word.now c.args.token.kind (built_of all c.args.self.now.built)
    c.in_default.not-Word c.in_default.not-Goto c.in_default.not-Break c.in_default.not-Else c.in_default.not-Semicolon c.in_default.not-Arrow)
