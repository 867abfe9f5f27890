use Rattle.std.proofs.Common.{◌∙◌, ap, sym, refl, map}
use Rattle.ltl_spec.specs.Formulas.Tokens.{same_name}
use Rattle.ltl_spec.specs.Collections.Lists.{with_new}
use Rattle.ltl_spec.specs.Claims.ClaimMachine as machine
use Rattle.ltl_claim.specs.ProgramView.{built_of}
use Rattle.ltl_claim.specs.ParserView.{ParserView}
use Rattle.ltl_claim.proofs.ParserLaws as laws
use Rattle.ltl_claim.proofs.parser.Parser.name.Goals as goal

pub returns : goal.returns
returns g c =
    laws.name_does (Unit {0}) c.args.self.now (record { symbols = c.self.inside.symbols.items; built = c.push_name.new.self; names = map (λ k. k.now) c.insert_full.new.self.keys }) c.args.name.now (ap (λ (v : ParserView). v.symbols) c.self.view_is)
    (ap (map (λ k. k.now)) c.in_ok-insert_full.ensures.keys ∙ laws.keys_inserted (λ k. k.now) _ (λ x y. refl) c.self.inside.names.keys c.args.name
    ∙ ap (λ (v : ParserView). with_new same_name v.names c.args.name.now) c.self.view_is)
    (λ names. ap (λ (v : ParserView). machine.named c.args.name.now (built_of names v.built)) (sym c.self.view_is) ∙ c.in_ok-push_name.ensures names)
