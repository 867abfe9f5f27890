use Rattle.std.proofs.Common.{◌≡◌, refl, sym, subst, true}
use Rattle.ltl_formula.specs.TableView.{is_elementary_row}
use Rattle.ltl_alt.specs.Steps.{HavePairSteps, IsNumbered, IsStepOf, pair_test_from}
use Rattle.ltl_alt.proofs.ProgramLaws.{release_given, until_given}
use Rattle.ltl_alt.proofs.program.Program.number_pairs.Goals as goal

pub returns-in_ok-either-in-Until-clause-step : goal.returns-in_ok-either-in-Until-clause-step
returns-in_ok-either-in-Until-clause-step g c = λ ps es w h.
    let old = c.args.self.now.steps.keys in
    let rows = c.args.self.now.rows.items in
    let e = c.in-Until.is in
    let have = subst (HavePairSteps old rows ps es) e h in
    let i = c.in-Until.i in
    let j = c.in-Until.j in
    let a : IsStepOf old c.pair_step-left.result (ps i) = subst (λ n. IsStepOf old n (ps i)) (sym c.pair_step-left.ensures) have.0 in
    let b : IsStepOf old c.pair_step-right.result (ps j) = subst (λ n. IsStepOf old n (ps j)) (sym c.pair_step-right.ensures) have.1 in
    subst (λ r. IsNumbered old c.number-in-Until-3.new.steps.keys c.in_ok-either-in-Until.either (pair_test_from ps es c.args.place r)) (sym e)
    (until_given old c.number-in-Until.new.steps.keys c.number-in-Until-2.new.steps.keys c.number-in-Until-3.new.steps.keys c.args.place c.pair_step-left.result c.pair_step-right.result c.in_ok-again-in-Until.again c.in_ok-put_off-in-Until.put_off c.in_ok-either-in-Until.either (ps i) (ps j)
    c.in_ok-again-in-Until.ensures (c.requires.place (subst (λ r. is_elementary_row r ≡ true) (sym e) refl)) c.in_ok-put_off-in-Until.ensures c.in_ok-either-in-Until.ensures w a b)

pub returns-in_ok-both-in-Release-clause-step : goal.returns-in_ok-both-in-Release-clause-step
returns-in_ok-both-in-Release-clause-step g c = λ ps es w h.
    let old = c.args.self.now.steps.keys in
    let rows = c.args.self.now.rows.items in
    let e = c.in-Release.is in
    let have = subst (HavePairSteps old rows ps es) e h in
    let i = c.in-Release.i in
    let j = c.in-Release.j in
    let a : IsStepOf old c.pair_step-left-in-Release.result (ps i) = subst (λ n. IsStepOf old n (ps i)) (sym c.pair_step-left-in-Release.ensures) have.0 in
    let b : IsStepOf old c.pair_step-right-in-Release.result (ps j) = subst (λ n. IsStepOf old n (ps j)) (sym c.pair_step-right-in-Release.ensures) have.1 in
    subst (λ r. IsNumbered old c.number-in-Release-3.new.steps.keys c.in_ok-both-in-Release.both (pair_test_from ps es c.args.place r)) (sym e)
    (release_given old c.number-in-Release.new.steps.keys c.number-in-Release-2.new.steps.keys c.number-in-Release-3.new.steps.keys c.args.place c.pair_step-left-in-Release.result c.pair_step-right-in-Release.result c.in_ok-again-in-Release.again c.in_ok-released-in-Release.released c.in_ok-both-in-Release.both (ps i) (ps j)
    c.in_ok-again-in-Release.ensures (c.requires.place (subst (λ r. is_elementary_row r ≡ true) (sym e) refl)) c.in_ok-released-in-Release.ensures c.in_ok-both-in-Release.ensures w a b)
