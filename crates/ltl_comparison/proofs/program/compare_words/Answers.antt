use Rattle.std.proofs.Common.{map}
use Rattle.ltl_cli.specs.Headline.{map_ok}
use Rattle.ltl_cli.proofs.RunLaws.{told_same}
use Rattle.ltl_comparison.proofs.ProgramLaws.{planned_opens, planned_shows, unplanned_opens, unplanned_shows}
use Rattle.ltl_comparison.proofs.program.compare_words.Goals as goal

pub returns-in-Ok-clause-shown : goal.returns-in-Ok-clause-shown
returns-in-Ok-clause-shown g c =
    planned_shows (g.F.Files.Stands c.args.files.now) (map_ok (λ ws. map (λ w. w.now) ws.now) c.args.words) c.in-Ok.plan (rw c.in-Ok.is at c.planned.ensures) c.compare_plan.ensures.shown

pub returns-in-Ok-clause-opened : goal.returns-in-Ok-clause-opened
returns-in-Ok-clause-opened g c =
    planned_opens g.F.Files.Opened g.F.Files.Stands g.F.Files.Comes _ _ (map_ok (λ ws. map (λ w. w.now) ws.now) c.args.words) c.in-Ok.plan _ (rw c.in-Ok.is at c.planned.ensures) c.compare_plan.ensures.opened

pub returns-in-Err-clause-shown : goal.returns-in-Err-clause-shown
returns-in-Err-clause-shown g c =
    unplanned_shows (g.F.Files.Stands c.args.files.now) (g.S.ByteSink.state c.args.output.now) c.requires.output (map_ok (λ ws. map (λ w. w.now) ws.now) c.args.words) c.in-Err.fault (rw c.in-Err.is at c.planned.ensures) _ _ _
    c.of_words.result c.of_words.ensures c.finish.ensures.status c.requires.message c.finish.ensures.message

pub returns-in-Err-clause-opened : goal.returns-in-Err-clause-opened
returns-in-Err-clause-opened g c =
    unplanned_opens g.F.Files.Opened g.F.Files.Stands g.F.Files.Comes _ c.args.files.now (map_ok (λ ws. map (λ w. w.now) ws.now) c.args.words) c.in-Err.fault _ (rw c.in-Err.is at c.planned.ensures) (rw c.of_words.ensures at c.finish.ensures.status)

pub returns-in-Err-clause-same_message : goal.returns-in-Err-clause-same_message
returns-in-Err-clause-same_message g c = told_same c.finish.ensures.message
