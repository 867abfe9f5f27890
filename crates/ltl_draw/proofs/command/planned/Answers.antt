use Rattle.std.proofs.Common.{◌∙◌, codes}
use Rattle.clap.specs.Words.{found_of}
use Rattle.clap.proofs.WalkLemmas.{first_value-rows}
use Rattle.ltl_draw.specs.Plans.{request_for}
use Rattle.ltl_draw.proofs.command.planned.Goals as goal

pub returns : goal.returns
returns c =
    let f = found_of c.args.matches.now in
    let run = c.get_str.ensures ∙ first_value-rows f (codes "w") in
    let word = c.get_str-2.ensures ∙ first_value-rows f (codes "t") in
    let formula = c.get_str-3.ensures ∙ first_value-rows f (codes "f") in
    let file = c.get_str-4.ensures ∙ first_value-rows f (codes "A") in
    c.one_plan.ensures ∙ (λ i. request_for (run i) (word i) (formula i) (file i))
