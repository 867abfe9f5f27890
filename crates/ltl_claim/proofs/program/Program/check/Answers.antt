use Rattle.std.proofs.Common.{◌∙◌, refl}
use Rattle.ltl_spec.specs.Claims.ClaimProgram as claims
use Rattle.ltl_claim.specs.ProgramView.{CheckKind, guards_of}
use Rattle.ltl_claim.proofs.GuardLaws as guards
use Rattle.ltl_claim.proofs.ProgramLaws as laws
use Rattle.ltl_claim.proofs.program.Program.check.Goals as goal

pub returns : goal.returns
returns g c =
    laws.one_acts c.args.inside c.args.self.now c.take_guards.new.self c.end_head.new.self _ c.end_head.result c.new.result c.in_ok-guards.ensures.taken c.in_ok-guards.ensures.guards
    (λ x. claims.Check x) CheckKind (λ x. refl) c.new.ensures c.in_ok-guards.ensures.count c.end_head.ensures

pub new-requires : goal.new-requires
new-requires g c = guards.holds_check _ (guards_of c.args.self.now.steps) c.in_ok-guards.ensures.count (c.in_ok-guards.ensures.guards ∙ c.in_ok-guards.ensures.whole)
