use Rattle.std.proofs.Common.{◌∙◌, ap, map, refl}
use Rattle.ltl_syntax.proofs.NameLemmas.{keys_inserted}
use Rattle.ltl_syntax.proofs.combining.put_name.Goals as goal

pub returns : goal.returns
returns g c = ap (map (λ k. k.now)) c.in_ok-insert.ensures.keys ∙ keys_inserted (λ k. k.now) _ (λ x y. refl) c.args.names.now.keys c.args.name
