use Rattle.std.proofs.Common.{◌∙◌}
use Rattle.ltl_pictures.proofs.TimelineLaws.{repeated_there}
use Rattle.ltl_pictures.proofs.subformulas.Subformulas.is_repeated.Goals as goal

pub returns : goal.returns
returns g c = c.has_text.ensures ∙ repeated_there (λ t. t.items) c.args.self.now.texts.items c.deref.result.now c.args.k c.index.result.now c.as_slice.result.now c.deref.ensures.value c.requires c.index.ensures c.as_slice.ensures.value
