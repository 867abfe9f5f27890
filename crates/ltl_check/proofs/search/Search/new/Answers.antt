use Rattle.ltl_check.proofs.Costs.{starts_cost}
use Rattle.ltl_check.proofs.search.Search.new.Goals as goal

pub returns-clause-unpaid : goal.returns-clause-unpaid
returns-clause-unpaid g c =
    starts_cost (g.N.Numbered.net c.args.net.now) c.in_ok-colours.colours.items _ _ _ (c.in_ok-colours.ensures.items_if_clones_equal (λ y e. e)) c.count.ensures
    c.start-here.ensures.is c.start-here.ensures.below c.new.ensures.items
