use Rattle.std.proofs.Common.{subst, sym}
use Rattle.std.proofs.lemmas.Result.{err_from_is_err_and}
use Rattle.ltl_claims.specs.Runs.{IsTextOf}
use Rattle.ltl_claims.proofs.RunLaws.{all_printed, claim_refuses, some_printed}
use Rattle.ltl_claims.proofs.claims.printed.Goals as goal

pub returns-in_err-text : goal.returns-in_err-text
returns-in_err-text g c =
    let (input, s, h) = c.in_err-text.ensures in
    let p = err_from_is_err_and c.from_residual.result c.from_residual.ensures.1 in
    (input, s, rw (p.1, p.2) (λ request. claim_refuses input _ c.requires.output request _ h))

pub returns-in_err-printed : goal.returns-in_err-printed
returns-in_err-printed g c =
    let (input, s, h) = c.in_ok-text.ensures in
    let p = err_from_is_err_and c.from_residual-in_err-printed.result c.from_residual-in_err-printed.ensures.1 in
    let w = (rw c.in_err-printed.was at c.flushed-printed.ensures.err) _ _ c.write_whole.ensures.ok c.write_whole.ensures.err in
    (input, s, rw (p.1, p.2) (λ request. some_printed input _ c.requires.output request _ _ (subst (IsTextOf input) (sym c.as_slice.ensures.value) h) w))

pub returns : goal.returns
returns g c =
    let (input, s, h) = c.in_ok-text.ensures in
    let w = (rw c.in_ok-printed.was at c.flushed-printed.ensures.ok) _ _ c.write_whole.ensures.ok in
    (input, s, λ request. all_printed input _ c.requires.output request _ _ (subst (IsTextOf input) (sym c.as_slice.ensures.value) h) _ w)
