use Rattle.ltl_cli.specs.Headline.{formula_file, request_planned}
use Rattle.ltl_cli.proofs.HeadlineLaws.{evaluator_planned, source_behind, translator_planned}
use Rattle.ltl_cli.proofs.program.run_plan.Goals as goal

pub returns-in-Translator-clause-shown : goal.returns-in-Translator-clause-shown
returns-in-Translator-clause-shown g c =
    let (input, s, h) = c.translate_over-status.ensures.shown in
    let b = source_behind g.F.File.ByteSource.state (g.F.Files.Stands c.args.files.now) (formula_file (request_planned c.args.plan.now)) _ _ _ input c.formula_source-formula.ensures.source s in
    rw c.in-Translator.is (translator_planned (g.F.Files.Stands c.args.files.now) (g.F.Files.Comes c.args.files.now) c.args.plan.now input b h)

pub returns-in-Evaluator-clause-shown : goal.returns-in-Evaluator-clause-shown
returns-in-Evaluator-clause-shown g c =
    let (input, s, h) = c.evaluate_over-status.ensures.shown in
    let b = source_behind g.F.File.ByteSource.state (g.F.Files.Stands c.args.files.now) (formula_file (request_planned c.args.plan.now)) _ _ _ input c.formula_source-formula-in-Evaluator.ensures.source s in
    rw c.in-Evaluator.is (evaluator_planned (g.F.Files.Stands c.args.files.now) (g.F.Files.Comes c.args.files.now) c.args.plan.now input b h)
