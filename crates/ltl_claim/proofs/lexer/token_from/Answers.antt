use Rattle.std.proofs.Common.{◌≡◌, ◌∙◌, ◌∷◌, ◌+◌, ◌-◌, ◌≤◌, ap, sym, subst, arith, drop, length, length-drop, take}
use Rattle.std.proofs.lemmas.List.{take_rest}
use Rattle.ltl_claim.specs.LexerView.{AreFound, items_at}
use Rattle.ltl_claim.specs.TokenView.{tell_of, token_of}
use Rattle.ltl_claim.proofs.LexerLaws.{token_at, blank_at}
use Rattle.ltl_claim.proofs.lexer.token_from.Goals as goal

pub returns-in-Some-clause-gives : goal.returns-in-Some-clause-gives
returns-in-Some-clause-gives c =
    let text = c.args.text.now in
    let at = c.bytes.at in
    let n = c.first_found-found.result.1 in
    let kind = c.in-Some.kind in
    let found = subst (λ xs. AreFound xs c.first_found-found.result.0 n) (take_rest text at) c.first_found-found.ensures.found in
    let e : at + n - at ≡ n = omega arith in
    sym c.bytes.invariant.rest
    ∙ token_at text at n kind c.bytes-test.true (subst (λ o. AreFound (drop at text) o n) c.in-Some.is found) c.first_found-found.ensures.some (omega (arith, length-drop at text, c.bytes-test.true))
    ∙ ap (λ k. record { token = token_of (take k (drop at text)) kind; tell = tell_of kind; at = at } ∷ items_at text (at + n)) (sym e)

pub bytes-preserved : goal.bytes-preserved
bytes-preserved c =
    let text = c.args.text.now in
    let at = c.bytes.at in
    let n = c.first_found-found.result.1 in
    let found = subst (λ xs. AreFound xs c.first_found-found.result.0 n) (take_rest text at) c.first_found-found.ensures.found in
    let within = subst (λ xs. n ≤ length xs) (take_rest text at) c.first_found-found.ensures.within in
    record {
      within = omega (arith, within, length-drop at text, c.bytes-test.true);
      rest = sym (blank_at text at n (subst (λ o. AreFound (drop at text) o n) c.in-None.is found) c.first_found-found.ensures.some (omega (arith, length-drop at text, c.bytes-test.true))) ∙ c.bytes.invariant.rest;
    }
