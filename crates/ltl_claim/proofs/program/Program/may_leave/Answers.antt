use Rattle.std.proofs.Common.{◌∙◌, ap}
use Rattle.std.specs.Prelude.{slice_index_or}
use Rattle.std.specs.List.{list_any}
use Rattle.ltl_claim.specs.ProgramView.{BuiltView, no_statement}
use Rattle.ltl_claim.proofs.OpenLaws.{loops_any}
use Rattle.ltl_claim.proofs.ProgramLaws as laws
use Rattle.ltl_claim.proofs.program.Program.may_leave.Goals as goal

pub returns : goal.returns
returns g c = λ names.
    loops_any c.self.inside.loops c.self.inside.selections.items c.self.inside.statements.items c.self.invariant.1
    ∙ ap (λ (v : BuiltView). list_any (λ i. (slice_index_or v.statements i no_statement).loops) v.selections) c.self.view_is
    ∙ laws.may_leave_view names c.args.self.now
