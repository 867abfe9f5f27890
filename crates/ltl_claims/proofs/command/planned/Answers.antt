use Rattle.std.proofs.Common.{◌∙◌, ap, codes}
use Rattle.clap.specs.Words.{found_of}
use Rattle.clap.proofs.WalkLemmas.{first_value-rows}
use Rattle.ltl_claims.specs.Plans.{Request}
use Rattle.ltl_claims.proofs.command.planned.Goals as goal

pub returns : goal.returns
returns c = ap (λ f. let r : Request = record { file = f } in r) (c.get_str.ensures ∙ first_value-rows (found_of c.args.matches.now) (codes "N"))
