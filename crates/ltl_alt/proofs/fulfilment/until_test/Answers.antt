use Rattle.ltl_alt.proofs.TestLaws.{until_test_is}
use Rattle.ltl_alt.proofs.fulfilment.until_test.Goals as goal

pub returns : goal.returns
returns g c =
    until_test_is c.args.table.now c.args.part.now.steps.keys c.args.tests.now c.args.part.now.numbers.items c.args.number c.until_row.result c.place.result c.number.result
    c.invariant.ensures c.requires.part c.until_row.ensures.found c.place.ensures.place c.number.ensures c.requires.within
