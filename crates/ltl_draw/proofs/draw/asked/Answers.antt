use Rattle.std.proofs.Common.{subst, sym}
use Rattle.std.specs.Prelude.{Ok}
use Rattle.ltl_cli.specs.Inputs.{most_of_automaton}
use Rattle.ltl_cli.proofs.InputLaws.{unread}
use Rattle.ltl_draw.specs.declared.request.Plan.{Plan}
use Rattle.ltl_draw.specs.Plans.{request_in}
use Rattle.ltl_draw.specs.Runs.{IsOutcome}
use Rattle.ltl_draw.proofs.draw.asked.Goals as goal

pub returns-in-Timeline-clause-shown : goal.returns-in-Timeline-clause-shown
returns-in-Timeline-clause-shown g c =
    let (input, s) = unread most_of_automaton g.R.ByteSource.state c.args.source.now c.requires.source in (
      input,
      s,
      subst (λ (p : Plan). IsOutcome (Ok (request_in p)) input (g.S.ByteSink.state c.args.output.now) (g.S.ByteSink.state c.shown.new.output) c.shown.result)
          (sym c.in-Timeline.is) (c.shown.ensures input),
    )

pub returns-in-Run-clause-shown : goal.returns-in-Run-clause-shown
returns-in-Run-clause-shown g c =
    let (input, s, h) = c.run_shown.ensures in
    (input, s, subst (λ (p : Plan). IsOutcome (Ok (request_in p)) input (g.S.ByteSink.state c.args.output.now) (g.S.ByteSink.state c.run_shown.new.output) c.run_shown.result) (sym c.in-Run.is) (h _))

pub returns-in-Picture-clause-shown : goal.returns-in-Picture-clause-shown
returns-in-Picture-clause-shown g c =
    let (input, s, h) = c.printed.ensures in
    (input, s, subst (λ (p : Plan). IsOutcome (Ok (request_in p)) input (g.S.ByteSink.state c.args.output.now) (g.S.ByteSink.state c.printed.new.output) c.printed.result) (sym c.in-Picture.is) (h _))
