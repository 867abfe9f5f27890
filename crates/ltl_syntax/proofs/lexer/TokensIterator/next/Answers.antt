use Rattle.std.proofs.lemmas.List.{take_rest}
use Rattle.std.proofs.Common.{inl, inr, ◌∙◌, ap, sym, subst, arith}
use Rattle.ltl_syntax.proofs.lexer.TokensIterator.next.Goals.{in-Unknown, in_default}
use Rattle.std.proofs.Common.{◌≡◌, ◌<◌, ◌≤◌, length, take}
use Rattle.ltl_syntax.proofs.LexerLemmas.{given_token}
use Rattle.ltl_syntax.specs.TokenView.{first_of, items_at, token_of}
use Rattle.ltl_syntax.proofs.lexer.TokensIterator.next.Goals as goal

pub returns-clause-steps : goal.returns-clause-steps
returns-clause-steps c =
    let text = c.self.inside.text.now in
    let start = c.after_blanks-start.result in
    let n = c.first_token-kind.result.1 in
    let kind = c.first_token-kind.result.0 in
    let same_text : text ≡ c.args.self.now.text = ap (λ v. v.text) c.self.view_is in
    let rest_is : c.args.self.now.rest ≡ items_at text start = ap (λ v. v.rest) (sym c.self.view_is) ∙ sym c.after_blanks-start.ensures.rest in
    let whole = take_rest text start in
    let token = subst (λ xs. token_of (take n xs) kind ≡ (first_of xs).0) whole c.first_token-kind.ensures.token in
    let long = subst (λ xs. n ≡ (first_of xs).1) whole c.first_token-kind.ensures.length in
    let within = subst (λ xs. n ≤ length xs) whole c.first_token-kind.ensures.within in
    let before : start < length text = omega arith in
    let stops = c.after_blanks-start.ensures.stops before in
    given_token c.args.self.now text start n c.match-kind.self kind same_text rest_is before stops token long within
    (elim c.match-kind.branch [ in-Unknown w ↦ inl (w.in-Unknown.is, w.self-is) | in_default w ↦ inr (w.in_default.not-Unknown, w.self-is) ])

pub returns-clause-goes : goal.returns-clause-goes
returns-clause-goes c =
    let steps = returns-clause-steps c in
    let shorter = ap length steps.1 in
    record { on = λ _. (tt, tt, omega (arith, shorter)); keeps = tt; rests = λ _. tt }
