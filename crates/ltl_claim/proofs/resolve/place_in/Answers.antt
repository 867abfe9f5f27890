use Rattle.std.proofs.Common.{◌∙◌, refl}
use Rattle.std.specs.Prelude.{unwrap_or}
use Rattle.ltl_claim.proofs.NameLaws.{place_found}
use Rattle.ltl_claim.proofs.resolve.place_in.Goals as goal

pub returns : goal.returns
returns g c = c.unwrap_or.ensures ∙ (λ i. unwrap_or (c.get_index_of.ensures.index i) (c.len.ensures.len i)) ∙ place_found (λ k. k.now) _ c.args.name.now (λ x. refl) c.args.names.now.keys
