use Rattle.std.proofs.Common.{◌≡◌, ◌++◌}
use Rattle.std.specs.Prelude.{flat_map}
use Rattle.std.specs.List.{range_with_len}
use Rattle.ltl_spec.specs.Claims.ClaimProgram.{Program}
use Rattle.ltl_claim.specs.ClaimView.{IsClaim}
use Rattle.ltl_claim_hoa.specs.ClaimHoa.{statement_lines}
use Rattle.ltl_claim_hoa.proofs.hoa.put_statements.Given as goal

abbrev pub invariant-states : goal.invariant-states
invariant-states g l = (P : Program) → IsClaim P l.claim → l.text.items ≡ l.fn.text.items ++ flat_map (statement_lines P) (range_with_len 0 l.i)
