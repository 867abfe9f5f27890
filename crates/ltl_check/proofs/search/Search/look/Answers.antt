use Rattle.std.proofs.Common.{sym, arith}
use Rattle.std.proofs.lemmas.Grind.{common_steps}
use Rattle.ltl_check.proofs.Costs.{entered}
use Rattle.ltl_check.proofs.search.Search.look.Goals as goal

pub returns-in_ok-push-in-New-clause-on : goal.returns-in_ok-push-in-New-clause-on
returns-in_ok-push-in-New-clause-on g c =
    entered (g.N.Numbered.net c.args.net.now) _ _ _ _ c.requires.searching c.requires.more.0 c.requires.more.1
    _ c.in-Some.step c.in-Some.ensures.below (sym c.in-Some.ensures.found) (grind (arith, common_steps)) c.in_ok-push-in-New.ensures.items
