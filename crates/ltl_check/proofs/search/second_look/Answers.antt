use Rattle.std.proofs.Common.{sym, arith}
use Rattle.std.proofs.lemmas.Grind.{common_steps}
use Rattle.ltl_check.proofs.Costs.{met_read, marked}
use Rattle.ltl_check.proofs.search.second_look.Goals as goal

pub returns-in-Open-clause-met : goal.returns-in-Open-clause-met
returns-in-Open-clause-met g c =
    met_read (g.N.Numbered.net c.args.net.now) _ _ _ _ _ _ _ c.requires.probing c.requires.more.0 c.requires.more.1 c.in-Some.step (sym c.in-Some.ensures.found)
    c.deref.result.now c.deref.ensures.value c.place_of-place.result c.place_of-place.ensures.within c.place_of-place.ensures.there c.place_of-place.ensures.absent
    (grind (arith, common_steps))

pub returns-in_ok-push-in-Left-clause-marks : goal.returns-in_ok-push-in-Left-clause-marks
returns-in_ok-push-in-Left-clause-marks g c _ =
    marked (g.N.Numbered.net c.args.net.now) _ _ _ _ _ _ _ c.requires.probing c.requires.more.0 c.requires.more.1
    _ c.in-Some.step c.in-Some.ensures.below (sym c.in-Some.ensures.found) (grind (arith, common_steps)) c.in_ok-push-in-Left.ensures.items
