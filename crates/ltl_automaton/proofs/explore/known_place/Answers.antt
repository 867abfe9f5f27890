use Rattle.std.proofs.Common.{◌∙◌, sym, rules, Some}
use Rattle.ltl_automaton.proofs.NetLaws.{stands_at}
use Rattle.ltl_automaton.proofs.explore.known_place.Goals as goal

pub returns-in-Some-place-clause-place : goal.returns-in-Some-place-clause-place
returns-in-Some-place-clause-place g c =
    let key = c.in-Some.same_successors_as in
    let at = stands_at g.K.PartialEq.eq g.met.K.Key.exact key c.args.listing.now.keys (Some c.in-Some-place.place) (sym c.in-Some-place.is ∙ c.place.ensures) in
    search rules
