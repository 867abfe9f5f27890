use Rattle.std.proofs.Common.{◌≡◌, arith, length, map}
use Rattle.ltl_claim.proofs.StateLaws.{claim_of_parts}
use Rattle.ltl_claim.proofs.resolve.claim_of.Goals as goal

pub returns : goal.returns
returns g c = λ all e.
    let count : c.len.result ≡ length c.into_parts-statements.result.1.items = let a = c.len.ensures in let b = c.into_parts-statements.result.1.ok.0 in omega (arith, a, b) in
    claim_of_parts all (map (λ k. k.now) c.args.names.now.keys) c.args.program _ c.into_parts-statements.result.1.items _ _ _ _ _ _ _ _ _ c.len.result _ _ _ e
    c.into_parts-statements.ensures.start c.into_parts-statements.ensures.statements c.into_parts-statements.ensures.labels c.as_slice.ensures.value c.as_slice-2.ensures.value
    c.as_slice-3.ensures.value c.as_slice-4.ensures.value c.as_slice-6.ensures.value count c.in_ok-nearest.ensures.tables c.in_ok-marks.ensures c.target-start.ensures
    c.in_ok-states.ensures c.in_ok-owned_names.ensures
