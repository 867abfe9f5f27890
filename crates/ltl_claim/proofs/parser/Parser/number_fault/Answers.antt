use Rattle.std.proofs.Common.{◌∙◌, ap, sym, Bool, Some, None}
use Rattle.std.specs.Prelude.{if◌then◌else◌}
use Rattle.ltl_claim.specs.ClaimFault as fault
use Rattle.ltl_claim.proofs.parser.Parser.number_fault.Goals as goal

pub returns-then-is_full_at : goal.returns-then-is_full_at
returns-then-is_full_at g c = λ all. ap (λ (x : Bool). if x then Some fault.LimitPassed else None) (sym c.if-is_full_at.true ∙ c.is_full_at.ensures all)

pub returns : goal.returns
returns g c = λ all. ap (λ (x : Bool). if x then Some fault.LimitPassed else None) (sym c.if-is_full_at.false ∙ c.is_full_at.ensures all)
