use Rattle.ltl_cli.specs.Headline.{formula_file, request_planned}
use Rattle.ltl_cli.proofs.HeadlineLaws.{checker_planned, file_behind, given_for, named_for, source_behind}
use Rattle.ltl_cli.proofs.program.check_by_plan.Goals as goal

pub returns-in-Some-clause-shown : goal.returns-in-Some-clause-shown
returns-in-Some-clause-shown g c =
    let Stands = g.F.Files.Stands c.args.files.now in
    let Comes = g.F.Files.Comes c.args.files.now in
    let (input, (behind, s), file, (later, t), h) = c.check_closing.ensures.shown in
    let b = source_behind g.F.File.ByteSource.state Stands (formula_file (request_planned c.args.plan.now)) _ _ behind input c.formula_source-formula.ensures.source s in
    let d = file_behind g.F.File.ByteSource.state _ _ _ later file c.open-automaton.ensures.source t in
    checker_planned Stands Comes c.args.plan.now input b file (named_for Stands Comes _ _ file (rw c.in-Some.is at c.automaton_name.ensures) ((c.formula_source-formula.ensures.opened.stands _ file).0 d)) h

pub returns-in-None-clause-shown : goal.returns-in-None-clause-shown
returns-in-None-clause-shown g c =
    let Stands = g.F.Files.Stands c.args.files.now in
    let Comes = g.F.Files.Comes c.args.files.now in
    let (input, (behind, s), file, (later, t), h) = c.check_closing-in-None.ensures.shown in
    let b = source_behind g.F.File.ByteSource.state Stands (formula_file (request_planned c.args.plan.now)) _ _ behind input c.formula_source-formula.ensures.source s in
    let a = given_for Stands Comes g.F.Input.ByteSource.state _ (λ x. (c.formula_source-formula.ensures.opened.comes x).0) _ _ _ later file (rw c.in-None.is at c.automaton_name.ensures)
    c.input_source-automaton.ensures.source t in
    checker_planned Stands Comes c.args.plan.now input b file a h
