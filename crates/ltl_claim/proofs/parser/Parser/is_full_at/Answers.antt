use Rattle.std.proofs.Common.{◌∙◌, sym}
use Rattle.ltl_claim.specs.ProgramView.{built_of}
use Rattle.ltl_claim.specs.SymbolView.{symbol_of}
use Rattle.ltl_claim.proofs.ParserLaws as laws
use Rattle.ltl_claim.specs.ClaimStep as step
use Rattle.ltl_claim.proofs.parser.Parser.is_full_at.Goals as goal

pub returns-then-begins_item : goal.returns-then-begins_item
returns-then-begins_item g c = λ all.
    laws.and_then (step.begins_item (symbol_of c.args.symbol)) (step.is_full (built_of all c.args.self.now.built)) c.is_full.result (sym c.begins_item.ensures ∙ c.if-begins_item.true) (c.is_full.ensures all)
