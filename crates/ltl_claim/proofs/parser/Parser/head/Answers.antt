use Rattle.std.proofs.Common.{◌∙◌, ◌∷◌, [], sym, subst}
use Rattle.ltl_spec.specs.Claims.ClaimProgram as claims
use Rattle.ltl_spec.specs.Claims.ClaimMachine as machine
use Rattle.ltl_claim.specs.ParserView.{Pushes, only}
use Rattle.ltl_claim.specs.TokenView.{tell_of, token_of}
use Rattle.ltl_claim.proofs.ParserLaws as laws
use Rattle.ltl_claim.proofs.parser.Parser.head.Goals as goal

pub returns-in_ok-push-in_default : goal.returns-in_ok-push-in_default
returns-in_ok-push-in_default g c =
    let t = token_of c.args.token.word.now c.args.token.kind in
    subst (λ o. Pushes (only (tell_of c.args.token.kind) o) c.args.self.now c.guard.result c.guard.new.self)
    (sym (laws.head_other c.args.inside c.args.token.word.now c.args.token.kind c.in_default.not-Assert c.in_default.not-Atomic))
    (laws.pushed_below (machine.Now (machine.one_tested (λ x. claims.Test x) c.args.inside) ∷ []) (tell_of c.args.token.kind) (machine.guard t) c.args.self.now c.push-in_default.new.self c.guard.new.self c.guard.result c.in_ok-push-in_default.field-0
    (laws.some_more (machine.May machine.Conjunct ∷ machine.May machine.Disjunct ∷ []) (tell_of c.args.token.kind) (machine.operand t) ∙ sym c.begins_operand.ensures ∙ c.if-not-begins_operand.false)
    c.in_ok-push-in_default.ensures c.guard.ensures)
