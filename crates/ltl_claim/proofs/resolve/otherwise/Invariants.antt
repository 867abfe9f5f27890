use Rattle.std.proofs.Common.{map, take}
use Rattle.ltl_spec.specs.Claims.ClaimProgram.{Program}
use Rattle.ltl_claim.proofs.OptionLaws.{JoinsTo}
use Rattle.ltl_claim.proofs.resolve.otherwise.Given as goal

abbrev pub invariant-options : goal.invariant-options
invariant-options g l = (P : Program) → JoinsTo P (map (λ k. k.now) l.names.keys) (take l.i l.options) l.some l.made.items
