use Rattle.std.proofs.Common.{◌∙◌, ap, sym, map}
use Rattle.ltl_claim.specs.ParserView.{ParserView}
use Rattle.ltl_claim.specs.SymbolView.{symbols_of}
use Rattle.ltl_claim.specs.TokenView.{item_of}
use Rattle.ltl_claim.proofs.ParserLaws as laws
use Rattle.ltl_claim.proofs.parser.Parser.take.Goals as goal

pub returns-then-branch : goal.returns-then-branch
returns-then-branch g c =
    laws.take_fits (Unit {0}) c.args.labels c.symbols.in_list (item_of c.args.token) c.in-Some.symbol c.args.self.now c.symbols.self
    (record { symbols = c.pop.new.self.items; built = c.self.inside.program; names = map (λ k. k.now) c.self.inside.names.keys }) c.expand.new.self c.symbols.invariant
    (ap (λ (v : ParserView). symbols_of v.symbols) (sym c.self.view_is) ∙ laws.popped_symbols c.pop.new.self.items c.self.inside.symbols.items c.in-Some.symbol c.in-Some.ensures.items)
    (ap (λ (v : ParserView). v.names) c.self.view_is) (ap (λ (v : ParserView). v.built) c.self.view_is)
    (laws.no_action c.in-Some.symbol c.in_default-symbol.not-Now)
    c.in_ok-expand.field-0 c.if-branch.true c.in_ok-expand.ensures c.early.result c.early.ensures
