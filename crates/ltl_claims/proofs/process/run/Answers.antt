use Rattle.std.proofs.Common.{ap, rules}
use Rattle.ltl_cli.proofs.RunLaws.{shows_bytes}
use Rattle.ltl_claims.proofs.process.run.Goals as goal

pub returns : goal.returns
returns g c =
    let (words, h) = c.run_over.ensures.shown in
    (words, shows_bytes (ap g.W.Write.contents c.new.ensures.now) (search rules) (ap g.E.Write.contents c.new-2.ensures.now) (search rules) h)
