use Rattle.std.proofs.Common.{◌∙◌, ap, refl}
use Rattle.ltl_claim.specs.ParserView.{ParserView}
use Rattle.ltl_claim.proofs.ParserLaws as laws
use Rattle.ltl_claim.proofs.parser.Parser.is_past.Goals as goal

pub returns-then-len-ge-PROPOSITION_LIMIT : goal.returns-then-len-ge-PROPOSITION_LIMIT
returns-then-len-ge-PROPOSITION_LIMIT g c = λ all e.
    laws.past_view (λ k. k.now) _ c.args.name.now (λ x. refl) c.self.inside.names.keys all c.args.self.now.built c.len.result c.contains.result (ap (λ (v : ParserView). v.names) c.self.view_is ∙ e)
    c.len.ensures.len c.if-len-ge-PROPOSITION_LIMIT.true c.contains.ensures
