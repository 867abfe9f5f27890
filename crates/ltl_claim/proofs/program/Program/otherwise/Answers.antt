use Rattle.std.proofs.Common.{◌∙◌, ap, sym, Bool, None}
use Rattle.std.specs.Prelude.{if◌then◌else◌}
use Rattle.ltl_spec.specs.Claims.ClaimProgram as claims
use Rattle.ltl_spec.specs.Claims.ClaimMachine as machine
use Rattle.ltl_claim.specs.ProgramView.{built_of}
use Rattle.ltl_claim.proofs.ProgramLaws as laws
use Rattle.ltl_claim.proofs.program.Program.otherwise.Goals as goal

pub returns-then-has_otherwise : goal.returns-then-has_otherwise
returns-then-has_otherwise g c = λ names.
    ap (λ (b : Bool). if b then None else machine.option_begun claims.Otherwise (built_of names c.args.self.now)) (sym (c.has_otherwise.ensures names) ∙ c.if-has_otherwise.true)

pub returns : goal.returns
returns g c =
    laws.otherwise_acts c.args.self.now c.begin_option.new.self c.begin_option.result c.new-option.result _ c.new-option.ensures
    (λ names. sym (c.has_otherwise.ensures names) ∙ c.if-has_otherwise.false) c.begin_option.ensures
