use Rattle.std.proofs.Common.{ap, rules}
use Rattle.ltl_cli.specs.Inputs.{most_of_automaton, most_taken}
use Rattle.ltl_cli.proofs.InputLaws.{input_before}
use Rattle.ltl_cli.proofs.RunLaws.{shows_bytes}
use Rattle.ltl_cli.proofs.standard.run_check.Goals as goal

pub returns : goal.returns
returns g c =
    let (input, s, file, t, h) = c.check_over.ensures.shown in (
      input,
      input_before g.R.Read.remaining _ most_taken c.args.source _ _ input c.asked.ensures s,
      file,
      input_before g.S.Read.remaining _ most_of_automaton c.args.automaton _ _ file c.asked-2.ensures t,
      shows_bytes (ap g.W.Write.contents c.new.ensures.now) (search rules) (ap g.E.Write.contents c.new-2.ensures.now) (search rules) h,
    )
