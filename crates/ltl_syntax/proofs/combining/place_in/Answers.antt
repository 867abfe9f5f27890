use Rattle.std.proofs.Common.{◌∙◌, ap, map}
use Rattle.ltl_spec.specs.Collections.Lists.{place_of}
use Rattle.ltl_spec.specs.Formulas.Tokens.{same_name}
use Rattle.ltl_syntax.proofs.CombinationLaws.{place_found}
use Rattle.ltl_syntax.proofs.combining.place_in.Goals as goal

pub returns : goal.returns
returns g c =
    place_found c.as_bytes.result c.args.names.now.keys c.get_index_of.result c.len.result c.unwrap_or.result c.get_index_of.ensures.index c.len.ensures.len c.unwrap_or.ensures
    ∙ ap (λ n. place_of same_name n (map (λ k. k.now) c.args.names.now.keys)) c.as_bytes.ensures.value
