use Rattle.std.proofs.Common.{◌∙◌, codes}
use Rattle.clap.specs.Words.{found_of}
use Rattle.clap.proofs.WalkLemmas.{first_value-rows}
use Rattle.ltl_reduction.specs.Plans.{Request}
use Rattle.ltl_reduction.proofs.command.planned.Goals as goal

pub returns : goal.returns
returns c =
    let file = c.get_str.ensures ∙ first_value-rows (found_of c.args.matches.now) (codes "A") in
    λ i. let r : Request = record { claim = c.is_set.ensures i; file = file i } in r
