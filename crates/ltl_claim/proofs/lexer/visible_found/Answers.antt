use Rattle.std.proofs.Common.{rules, ◌≡◌, ◌∙◌, ap, sym, false, slice_index, take}
use Rattle.ltl_spec.specs.Hoa.HoaToken.{is_digit, begins_identifier}
use Rattle.ltl_claim.proofs.LexerLaws.{sign_short, visible_sign}
use Rattle.ltl_claim.proofs.lexer.visible_found.Goals as goal

pub returns-clause-token : goal.returns-clause-token
returns-clause-token c =
    let second : c.unwrap_or-second.result ≡ slice_index c.args.text.now 1 = search rules in
    let digit : is_digit (slice_index c.args.text.now 0) ≡ false = search rules in
    let word : begins_identifier (slice_index c.args.text.now 0) ≡ false = search rules in
    c.sign_from.ensures.token (take c.sign_from.result.1 c.args.text.now) ∙ sym (ap (λ p. p.0) (visible_sign c.args.text.now c.unwrap_or-second.result c.requires second digit word).0)

pub returns-clause-length : goal.returns-clause-length
returns-clause-length c =
    let second : c.unwrap_or-second.result ≡ slice_index c.args.text.now 1 = search rules in
    let digit : is_digit (slice_index c.args.text.now 0) ≡ false = search rules in
    let word : begins_identifier (slice_index c.args.text.now 0) ≡ false = search rules in
    c.sign_from.ensures.length ∙ sym (ap (λ p. p.1) (visible_sign c.args.text.now c.unwrap_or-second.result c.requires second digit word).0)

pub returns-clause-tell : goal.returns-clause-tell
returns-clause-tell c =
    let second : c.unwrap_or-second.result ≡ slice_index c.args.text.now 1 = search rules in
    let digit : is_digit (slice_index c.args.text.now 0) ≡ false = search rules in
    let word : begins_identifier (slice_index c.args.text.now 0) ≡ false = search rules in
    c.sign_from.ensures.tell ∙ sym (visible_sign c.args.text.now c.unwrap_or-second.result c.requires second digit word).1

pub returns-clause-within : goal.returns-clause-within
returns-clause-within c =
    let second : c.unwrap_or-second.result ≡ slice_index c.args.text.now 1 = search rules in
    sign_short c.args.text.now c.unwrap_or-second.result c.sign_from.result.1 c.requires second c.sign_from.ensures.short
