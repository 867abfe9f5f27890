use Rattle.std.proofs.Common.{◌∙◌, ◌∷◌, [], sym}
use Rattle.ltl_spec.specs.Claims.ClaimMachine as machine
use Rattle.ltl_claim.specs.TokenView.{tell_of, token_of}
use Rattle.ltl_claim.proofs.ParserLaws as laws
use Rattle.ltl_claim.proofs.parser.Parser.another.Goals as goal

pub returns : goal.returns
returns g c =
    laws.pushed_below (machine.May machine.More ∷ []) (tell_of c.args.token.kind) (machine.item c.args.labels (token_of c.args.token.word.now c.args.token.kind)) c.args.self.now c.push.new.self c.item.new.self c.item.result c.in_ok-push.field-0
    (sym c.begins_item.ensures ∙ c.if-not-begins_item.false) c.in_ok-push.ensures c.item.ensures
