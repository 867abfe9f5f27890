use Rattle.std.proofs.Common.{ap, rules}
use Rattle.ltl_cli.specs.Inputs.{most_taken}
use Rattle.ltl_cli.proofs.InputLaws.{input_before}
use Rattle.ltl_cli.proofs.RunLaws.{shows_bytes}
use Rattle.ltl_cli.proofs.standard.run_eval.Goals as goal

pub returns : goal.returns
returns g c =
    let (input, s, h) = c.evaluate_over.ensures.shown in (
      input,
      input_before g.R.Read.remaining _ most_taken c.args.source _ _ input c.asked.ensures s,
      λ file. shows_bytes (ap g.W.Write.contents c.new.ensures.now) (search rules) (ap g.E.Write.contents c.new-2.ensures.now) (search rules) (h file),
    )
