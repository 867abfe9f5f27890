use Rattle.ltl_formula.proofs.NeedsLemmas.{both_marked}
use Rattle.ltl_formula.proofs.needs.add_below.Goals as goal

pub returns-in-Binary-clause-marked : goal.returns-in-Binary-clause-marked
returns-in-Binary-clause-marked c =
    both_marked c.args.node c.in-Binary.operator c.in-Binary.a c.in-Binary.b _ _ c.of_left.result c.of_right.result c.add-in-Binary.new.needs c.add-in-Binary-2.new.needs c.in-Binary.is c.of_left.ensures c.of_right.ensures c.add-in-Binary.ensures.added c.add-in-Binary-2.ensures.wider c.add-in-Binary-2.ensures.added
