use Rattle.std.proofs.Common.{◌<◌, ◌++◌, ◌∷◌, [], ◌∙◌, ap, arith, false, length}
use Rattle.std.specs.Prelude.{slice_index_or}
use Rattle.ltl_alt.specs.declared.program.Step.TheVariants as step
use Rattle.ltl_alt.proofs.NeedsLaws.{same_default}
use Rattle.ltl_alt.proofs.ProgramLaws.{inside}
use Rattle.ltl_alt.proofs.SubprogramLaws.{part_more}
use Rattle.ltl_alt.proofs.subprogram.Subprogram.add.Goals as goal

pub returns : goal.returns
returns g c =
    let ss = c.args.steps.now in
    let needed = c.args.needed.now in
    let k = c.args.k in
    let x = c.in_ok-number.number in
    let count = c.requires.needed.count in
    let long = inside ss in
    let within = c.requires.within in
    let here : k < length needed = omega (arith, count, long, within) in
    part_more ss needed k (slice_index_or ss k step.Always) (slice_index_or needed k false) c.args.self.now.steps.keys c.number_if.new.self.steps.keys c.args.self.now.numbers.items c.push.new.self.items x
    c.requires.ordered c.requires.needed within (same_default ss k step.Always _ within) (same_default needed k false _ here) c.in_ok-number.ensures.needed c.number_if.ensures.other
    (c.in_ok-push.ensures.items ∙ ap (λ xs. xs ++ x ∷ []) c.number_if.ensures.numbers) c.requires.part
