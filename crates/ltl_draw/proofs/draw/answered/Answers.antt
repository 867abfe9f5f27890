use Rattle.std.proofs.Common.{ap}
use Rattle.ltl_cli.specs.Inputs.{most_of_automaton}
use Rattle.ltl_cli.proofs.InputLaws.{unread}
use Rattle.ltl_draw.specs.Plans.{requested}
use Rattle.ltl_draw.proofs.RunLaws.{words_refused}
use Rattle.ltl_draw.proofs.draw.answered.Goals as goal

pub returns-in-Err-clause-shown : goal.returns-in-Err-clause-shown
returns-in-Err-clause-shown g c =
    let (input, s) = unread most_of_automaton g.R.ByteSource.state c.args.source.now c.requires.source in
    (input, s, words_refused input _ c.requires.output (requested c.args.plan.now) _ _ (ap requested c.in-Err.is) c.of_words.ensures)
