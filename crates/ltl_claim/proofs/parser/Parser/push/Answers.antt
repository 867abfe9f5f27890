use Rattle.std.proofs.Common.{◌∙◌, ◌++◌, ap, sym, List, Some}
use Rattle.ltl_spec.specs.Claims.ClaimMachine as machine
use Rattle.ltl_claim.specs.ParserView.{ParserView}
use Rattle.ltl_claim.specs.SymbolView.{symbols_of}
use Rattle.ltl_claim.proofs.ParserLaws as laws
use Rattle.ltl_claim.proofs.parser.Parser.push.Goals as goal

pub returns : goal.returns
returns g c = (
  ap (λ (l : List machine.Symbol). Some l) (ap (λ (v : ParserView). symbols_of c.args.symbols.now ++ symbols_of v.symbols) (sym c.self.view_is)
      ∙ laws.pushed_symbols c.self.inside.symbols.items c.args.symbols.now _ c.in_ok-extend_from_slice.ensures.items),
  ap (λ (v : ParserView). v.built) c.self.view_is,
  ap (λ (v : ParserView). v.names) c.self.view_is,
)
