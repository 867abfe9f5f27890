use Rattle.std.proofs.Common.{ℕ, List, length, subst, sym}
use Rattle.std.proofs.lemmas.Result.{err_from_is_err_and}
use Rattle.ltl_spec.specs.Checking.Bounds.{HasNamesBelow}
use Rattle.ltl_text.specs.NamedClaim.{named_claim}
use Rattle.ltl_reduction.specs.Runs.{IsClaimText}
use Rattle.ltl_reduction.proofs.RunLaws.{all_printed, claim_makes, claim_refused, some_printed}
use Rattle.ltl_reduction.proofs.claim.claimed.Goals as goal

pub put_named_claim-requires : goal.put_named_claim-requires
put_named_claim-requires g c = subst (λ (ns : List (List ℕ)). HasNamesBelow (length ns) c.in_ok-claim.claim.made) (sym c.names-names.ensures) c.in_ok-claim.ensures.named

pub returns-in_err-claim : goal.returns-in_err-claim
returns-in_err-claim g c =
    let (input, s, h) = c.in_err-claim.ensures.made in
    let p = err_from_is_err_and c.from_residual.result c.from_residual.ensures.1 in
    (input, s, rw (p.1, p.2) (λ request e. claim_refused input _ c.requires.output request e _ h))

pub returns-in_err-printed : goal.returns-in_err-printed
returns-in_err-printed g c =
    let (input, s, (reads, made)) = c.in_ok-claim.ensures.made in
    let p = err_from_is_err_and c.from_residual-in_err-printed.result c.from_residual-in_err-printed.ensures.1 in
    let w = (rw c.in_err-printed.was at c.flushed-printed.ensures.err) _ _ c.put_named_claim.ensures.ok c.put_named_claim.ensures.err in
    let C = c.in_ok-claim.claim in
    let text = subst (λ (ns : List (List ℕ)). IsClaimText C.given (named_claim C.made ns)) (sym c.names-names.ensures) made in
    (input, s, rw (p.1, p.2) (λ request e. some_printed input _ c.requires.output request _ _ reads _ (claim_makes request.claim _ _ e text) w))

pub returns : goal.returns
returns g c =
    let (input, s, (reads, made)) = c.in_ok-claim.ensures.made in
    let w = (rw c.in_ok-printed.was at c.flushed-printed.ensures.ok) _ _ c.put_named_claim.ensures.ok in
    let C = c.in_ok-claim.claim in
    let text = subst (λ (ns : List (List ℕ)). IsClaimText C.given (named_claim C.made ns)) (sym c.names-names.ensures) made in
    (input, s, λ request e. all_printed input _ c.requires.output request _ _ reads _ (claim_makes request.claim _ _ e text) _ w)
