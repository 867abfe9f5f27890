use Rattle.std.proofs.Common.{ap, refl}
use Rattle.ltl_automaton.specs.WorklistView.{InternerView}
use Rattle.ltl_check.specs.declared.place.Place.{Place}
use Rattle.ltl_check.specs.contracts.place.PlacePartialEq.TheImpl.{ghosts}
use Rattle.ltl_check.proofs.BreadthLaws.{begin_from}
use Rattle.ltl_check.proofs.breadth.Breadth.new.Goals as goal

pub returns-clause-begun : goal.returns-clause-begun
returns-clause-begun g c task =
    begin_from ghosts.eq (g.N.Numbered.net c.args.net.now) task.bases task.sets _ _ _ _ _ _ _ c.in_ok-number.ensures.keys (ap (λ (v : InternerView Place). v.keys) c.new-places.ensures) c.start-start.ensures.is c.empty.ensures c.start-start.ensures.below
    c.in_ok-push.ensures.items c.new-arrivals.ensures.items refl
