use Rattle.std.proofs.Common.{map, subst}
use Rattle.std.specs.Prelude.{Ok}
use Rattle.ltl_cli.specs.Headline.{WordsMayShow}
use Rattle.ltl_cli.specs.Inputs.{IsStream}
use Rattle.ltl_cli.specs.Runs.{Shows}
use Rattle.ltl_words.specs.Tools.{tool_of}
use Rattle.ltl_host.specs.Sources.{AnythingBehind}
use Rattle.ltl_host.proofs.run_over.Goals as goal

-- the files have the input that was given
pub returns-clause-shown : goal.returns-clause-shown
returns-clause-shown g c =
    let words = Ok (map (λ w. w.now) c.as_slice-2.result.now) in (
      words,
      subst (λ (i : g.row.I.Denot). Shows (WordsMayShow AnythingBehind (IsStream (g.I.Read.remaining i)) (tool_of c.args.tool) words)
          (g.S.ByteSink.state c.args.output.now) (g.S.ByteSink.state c.run-2.new.output) (g.M.ByteSink.state c.args.message.now) (g.M.ByteSink.state c.run-2.new.message) c.run-2.result)
          c.new-files.ensures c.run-2.ensures.shown,
    )
