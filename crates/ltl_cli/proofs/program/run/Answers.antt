use Rattle.std.specs.Prelude.{map}
use Rattle.ltl_cli.specs.Headline.{map_ok}
use Rattle.ltl_words.specs.Tools.{tool_of}
use Rattle.ltl_cli.proofs.HeadlineLaws.{words_open, words_show}
use Rattle.ltl_cli.proofs.program.run.Goals as goal

pub returns-clause-shown : goal.returns-clause-shown
returns-clause-shown g c = words_show (g.F.Files.Stands c.args.files.now) (g.F.Files.Comes c.args.files.now) (tool_of c.args.tool) (map_ok (λ ws. map (λ w. w.now) ws.now) c.args.words) c.planned-plan.result c.planned-plan.ensures c.run_plan.ensures.shown

pub returns-clause-opened : goal.returns-clause-opened
returns-clause-opened g c = words_open g.F.Files.Opened g.F.Files.Stands g.F.Files.Comes (tool_of c.args.tool) _ _ (g.F.Files.Stands c.args.files.now) (g.F.Files.Comes c.args.files.now) (map_ok (λ ws. map (λ w. w.now) ws.now) c.args.words) c.planned-plan.result c.planned-plan.ensures c.run_plan.ensures.shown c.run_plan.ensures.opened
