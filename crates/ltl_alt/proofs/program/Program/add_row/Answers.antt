use Rattle.std.proofs.Common.{◌≡◌, ◌∙◌, ◌++◌, ◌∷◌, [], ap, subst}
use Rattle.ltl_alt.specs.Steps.{HaveSetSteps, IsNumbered, set_test_from}
use Rattle.ltl_alt.proofs.ElementaryLaws.{kind_stands}
use Rattle.ltl_alt.proofs.ProgramLaws.{program_step}
use Rattle.ltl_alt.proofs.program.Program.add_row.Goals as goal

pub number_pairs-requires-clause-place : goal.number_pairs-requires-clause-place
number_pairs-requires-clause-place g c =
    λ e. c.place-place.ensures.small (kind_stands c.args.table.now c.args.row c.row-kind.result c.invariant.ensures c.requires.within c.row-kind.ensures.found c.row-kind.ensures.operands e)

pub number_sets-requires-clause-place : goal.number_sets-requires-clause-place
number_sets-requires-clause-place g c =
    λ e. c.place-place.ensures.small (kind_stands c.args.table.now c.args.row c.row-kind.result c.invariant.ensures c.requires.within c.row-kind.ensures.found c.row-kind.ensures.operands e)

pub returns-clause-program : goal.returns-clause-program
returns-clause-program g c =
    let n = c.args.row in
    let r = c.row-kind.result in
    let at = c.place-place.result in
    let ss = c.args.self.now.steps.keys in
    let one = c.number_pairs.new.self.steps.keys in
    let two = c.number_sets.new.self.steps.keys in
    let rs = c.args.self.now.rows.items in
    let x = c.in_ok-pairs.pairs in
    let y = c.in_ok-sets.sets in
    let rows : c.number_pairs.new.self.rows.items ≡ rs = c.number_pairs.ensures.rows in
    program_step c.args.table.now n at r ss one two rs c.push.new.self.items x y c.row-kind.ensures.found c.row-kind.ensures.operands c.place-place.ensures.place c.requires.count
    c.in_ok-pairs.ensures.step (λ es w. subst (λ qs. HaveSetSteps one qs es r → IsNumbered one two y (set_test_from es at r)) rows (c.in_ok-sets.ensures.step es w))
    (c.in_ok-push.ensures.items ∙ ap (λ qs. qs ++ record { pairs = x; sets = y } ∷ []) (c.number_sets.ensures.rows ∙ rows)) c.requires.program
