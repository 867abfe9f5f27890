use Rattle.std.proofs.Common.{◌≡◌, ◌∙◌, ap, sym, take, length, subst, ◌≤◌, slice_index, rules, false, refl}
use Rattle.ltl_spec.specs.Formulas.Tokens as tokens
use Rattle.ltl_syntax.proofs.LexerLemmas.{sign_first, first_within}
use Rattle.ltl_syntax.proofs.lexer.first_token.Goals as goal

pub returns-else-is_lower-clause-within : goal.returns-else-is_lower-clause-within
returns-else-is_lower-clause-within c =
    let w = first_within c.args.text.now c.requires in
    let second : c.unwrap_or-second.result ≡ slice_index c.args.text.now 1 = search rules in
    let third : c.unwrap_or-third.result ≡ slice_index c.args.text.now 2 = search rules in
    let lower : tokens.is_lower (slice_index c.args.text.now 0) ≡ false = search rules in
    let f = sign_first c.args.text.now (slice_index c.args.text.now 0) c.unwrap_or-second.result c.unwrap_or-third.result c.requires refl second third lower in
    subst (λ k. k ≤ length c.args.text.now) (ap (λ p. p.1) f ∙ sym c.sign_from.ensures.length) w

pub returns-else-is_lower-clause-token : goal.returns-else-is_lower-clause-token
returns-else-is_lower-clause-token c =
    let second : c.unwrap_or-second.result ≡ slice_index c.args.text.now 1 = search rules in
    let third : c.unwrap_or-third.result ≡ slice_index c.args.text.now 2 = search rules in
    let lower : tokens.is_lower (slice_index c.args.text.now 0) ≡ false = search rules in
    let f = sign_first c.args.text.now (slice_index c.args.text.now 0) c.unwrap_or-second.result c.unwrap_or-third.result c.requires refl second third lower in
    c.sign_from.ensures.token (take c.sign_from.result.1 c.args.text.now) ∙ sym (ap (λ p. p.0) f)
