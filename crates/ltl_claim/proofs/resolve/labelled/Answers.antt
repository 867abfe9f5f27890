use Rattle.std.proofs.Common.{◌∙◌, ap, refl}
use Rattle.std.specs.Prelude.{unwrap_or}
use Rattle.ltl_claim.proofs.WayLaws.{label_found}
use Rattle.ltl_claim.proofs.resolve.labelled.Goals as goal

pub returns : goal.returns
returns g c =
    c.unwrap_or.ensures ∙ ap (λ o. unwrap_or o c.args.end) (c.copied.ensures ∙ c.get.ensures.value)
    ∙ label_found (λ l. l.now) _ c.args.name.now (λ x. refl) c.args.labels.now.entries c.args.end
