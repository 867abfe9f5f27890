use Rattle.std.proofs.Common.{◌∙◌, ap, sym}
use Rattle.std.specs.Prelude.{Some}
use Rattle.ltl_spec.specs.Claims.ClaimMachine as machine
use Rattle.ltl_claim.specs.ProgramView.{BuiltView, built_of, jump_made, link_of}
use Rattle.ltl_claim.proofs.ProgramLaws.{jump_view}
use Rattle.ltl_claim.proofs.program.Program.jump.Goals as goal

pub returns : goal.returns
returns g c = λ names.
    ap (λ b. jump_made b (link_of c.args.link) (built_of names c.args.self.now)) c.if-inside.false
    ∙ jump_view names c.args.self.now (link_of c.args.link)
    ∙ ap (λ (v : BuiltView). Some (built_of names (record v { hole = machine.Nowhere }))) (sym (c.self-2.view_is ∙ c.link.ensures))
