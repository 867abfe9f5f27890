use Rattle.std.proofs.Common.{◌∙◌, ap}
use Rattle.ltl_spec.specs.Claims.ClaimMachine as machine
use Rattle.ltl_claim.specs.ProgramView.{BuiltView}
use Rattle.ltl_claim.proofs.program.Program.is_label.Goals as goal

pub returns : goal.returns
returns g c = c.is_label.ensures ∙ ap (λ (v : BuiltView). machine.is_label c.args.name.now v.labels) c.self.view_is
