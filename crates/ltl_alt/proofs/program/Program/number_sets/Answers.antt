use Rattle.std.proofs.Common.{inl, inr, refl, sym}
use Rattle.ltl_alt.proofs.ProgramLaws.{leads_given}
use Rattle.ltl_alt.proofs.program.Program.number_sets.Goals as goal

pub returns-in_ok-leads-in-Literal-clause-step : goal.returns-in_ok-leads-in-Literal-clause-step
returns-in_ok-leads-in-Literal-clause-step g c = λ es w h.
    let old = c.args.self.now.steps.keys in
    let new = c.number-in-Literal.new.steps.keys in
    let k = c.in_ok-leads-in-Literal.leads in
    let at = c.args.place in
    elim c.in-Literal.is [
      | inl (x, e) ↦ leads_given old new at k es c.args.row (sym e) refl refl c.in_ok-leads-in-Literal.ensures c.requires.place w
      | inr (inl (x, e)) ↦ leads_given old new at k es c.args.row (sym e) refl refl c.in_ok-leads-in-Literal.ensures c.requires.place w
      | inr (inr (inl (x, y, e))) ↦ leads_given old new at k es c.args.row (sym e) refl refl c.in_ok-leads-in-Literal.ensures c.requires.place w
      | inr (inr (inr (x, y, e))) ↦ leads_given old new at k es c.args.row (sym e) refl refl c.in_ok-leads-in-Literal.ensures c.requires.place w
    ]
