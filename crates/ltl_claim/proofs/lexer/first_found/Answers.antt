use Rattle.std.proofs.Common.{rules, ◌≡◌, ◌∙◌, sym, false, nat_eq, slice_index}
use Rattle.std.specs.Prelude.{codes}
use Rattle.std.specs.List.{starts_with}
use Rattle.ltl_spec.specs.Formulas.Tokens.{is_blank}
use Rattle.ltl_claim.proofs.LexerLaws.{visible_is}
use Rattle.ltl_claim.proofs.lexer.first_found.Goals as goal

pub returns-clause-found : goal.returns-clause-found
returns-clause-found c =
    let blank : is_blank (slice_index c.args.text.now 0) ≡ false = search rules in
    let comment : starts_with nat_eq c.args.text.now (codes "/*") ≡ false = sym c.starts_with.ensures.value ∙ c.if-starts_with.false in
    visible_is c.args.text.now c.visible_found-kind.result.1 c.visible_found-kind.result.0 c.requires blank comment c.visible_found-kind.ensures.token c.visible_found-kind.ensures.length
    c.visible_found-kind.ensures.tell
