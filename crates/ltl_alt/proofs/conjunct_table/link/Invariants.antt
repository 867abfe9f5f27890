use Rattle.ltl_alt.specs.ConjunctTableView.{IsLinked}
use Rattle.ltl_alt.proofs.conjunct_table.link.Given as goal

abbrev pub invariant-conjuncts : goal.invariant-conjuncts
invariant-conjuncts g l = IsLinked l.dependencies l.dependency l.number l.k l.fn.links.items l.links.items l.own
