use Rattle.std.proofs.Common.{◌∙◌, refl}
use Rattle.ltl_claim.proofs.ProgramLaws as laws
use Rattle.ltl_claim.proofs.program.is_label.Goals as goal

pub returns : goal.returns
returns g c = c.contains_key.ensures ∙ laws.labels_view (λ l. l.now) _ c.args.name.now (λ x. refl) c.args.labels.now.entries
