use Rattle.std.proofs.Common.{◌∙◌, ap}
use Rattle.std.specs.Prelude.{slice_get, slice_index_or, unwrap_or}
use Rattle.std.specs.List.{list_any}
use Rattle.ltl_claim.specs.ProgramView.{BuiltView, is_otherwise, no_statement, topped}
use Rattle.ltl_claim.proofs.ProgramLaws as laws
use Rattle.ltl_claim.proofs.program.Program.has_otherwise.Goals as goal

pub returns : goal.returns
returns g c = λ names.
    c.has_otherwise_at.ensures
    ∙ ap (λ ss. list_any is_otherwise (slice_index_or ss c.unwrap_or.result no_statement).options) c.deref.ensures.value
    ∙ ap (λ (v : BuiltView). list_any is_otherwise (slice_index_or v.statements c.unwrap_or.result no_statement).options) c.self.view_is
    ∙ ap (λ i. list_any is_otherwise (slice_index_or c.args.self.now.statements i no_statement).options) (c.unwrap_or.ensures ∙ ap (λ o. unwrap_or o 0) c.innermost.ensures)
    ∙ laws.otherwise_view names c.args.self.now (unwrap_or (slice_get (topped c.args.self.now.selections) 0) 0)
