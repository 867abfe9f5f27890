use Rattle.std.proofs.Common.{◌≡◌, ◌∙◌, sym, subst, arith, drop, false, nat_eq}
use Rattle.std.specs.Prelude.{codes}
use Rattle.std.specs.List.{starts_with}
use Rattle.std.proofs.lemmas.List.{take_rest}
use Rattle.ltl_claim.proofs.LexerLaws.{comment_more}
use Rattle.ltl_claim.proofs.lexer.comment_rest.Goals as goal

pub bytes-preserved : goal.bytes-preserved
bytes-preserved c =
    let text = c.args.text.now in
    let at = c.bytes.at in
    let other : starts_with nat_eq (drop at text) (codes "*/") ≡ false =
    subst (λ xs. starts_with nat_eq xs (codes "*/") ≡ false) (take_rest text at) (sym c.starts_with.ensures.value ∙ c.if-starts_with.false) in
    record { within = omega (arith, c.bytes-test.true); rest = comment_more text at c.bytes-test.true other c.bytes.invariant.rest }
