use Rattle.std.proofs.Common.{◌≡◌, false}
use Rattle.std.specs.Prelude.{nat_eq}
use Rattle.std.specs.List.{list_any, range_with_len}
use Rattle.ltl_spec.specs.Claims.ClaimProgram.{Program}
use Rattle.ltl_spec.specs.Claims.ClaimMeaning.{end}
use Rattle.ltl_claim.specs.ClaimView.{IsClaim, statement_moves}
use Rattle.ltl_claim_hoa.proofs.hoa.is_ended.Given as goal

abbrev pub invariant-states : goal.invariant-states
invariant-states g l = (P : Program) → IsClaim P l.claim → list_any (λ i. list_any (λ m. nat_eq m.1 (end P)) (statement_moves P i)) (range_with_len 0 l.i) ≡ false
