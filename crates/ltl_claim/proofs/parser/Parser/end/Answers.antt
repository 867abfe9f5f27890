use Rattle.std.proofs.Common.{◌≡◌, ◌∙◌, ap, length, arith, false, []}
use Rattle.std.specs.Vec.{vec_len}
use Rattle.ltl_claim.specs.ParserView.{ParserView}
use Rattle.ltl_claim.specs.ProgramView.{built_of}
use Rattle.ltl_claim.specs.SymbolView.{symbols_of}
use Rattle.ltl_claim.specs.TokenView.{kind_of}
use Rattle.ltl_claim.proofs.ParserLaws as laws
use Rattle.ltl_claim.proofs.parser.Parser.end.Goals as goal

pub returns-in-Some : goal.returns-in-Some
returns-in-Some g c = λ all e.
    let some : c.self.inside.symbols.items ≡ [] → ⊥ = λ q.
    let h : length c.self.inside.symbols.items ≡ 0 = ap length q in
    laws.not_empty (vec_len c.self.inside.symbols) c.is_empty.result c.is_empty.ensures c.if-is_empty.false (omega (arith, h, c.self.inside.symbols.ok.0)) in
    laws.end_some (symbols_of c.args.self.now.symbols) (built_of all c.args.self.now.built) c.args.length (kind_of c.in-Some.kind)
    (λ n. some (ap (λ (v : ParserView). v.symbols) c.self.view_is ∙ laws.no_symbols c.args.self.now.symbols n))
    (laws.taken_some (Unit {0}) false _ c.args.self.now c.take.new.self c.in_ok-kind.field-0 c.in-Some.kind c.in-Some.is c.in_ok-kind.ensures all e)
