use Rattle.std.proofs.Common.{inl, refl}
use Rattle.std.proofs.lemmas.Result.{err_from_is_err_and}
use Rattle.ltl_claims.proofs.RunLaws.{text_made}
use Rattle.ltl_claims.proofs.text.hoa_of_text.Goals as goal

pub returns-in_err-claim : goal.returns-in_err-claim
returns-in_err-claim g c =
    let p = err_from_is_err_and c.from_residual.result c.from_residual.ensures.1 in
    rw (p.1, p.2) c.in_err-claim.ensures

pub returns-in-Ok : goal.returns-in-Ok
returns-in-Ok g c =
    let (P, q, is, n) = c.in_ok-claim.ensures in
    text_made _ _ P _ q is c.claim_hoa.ensures.few c.claim_hoa.ensures.few_names (c.in-Ok.ensures.text P is)

pub returns : goal.returns
returns g c =
    let (P, q, is, n) = c.in_ok-claim.ensures in
    inl (refl, n)
