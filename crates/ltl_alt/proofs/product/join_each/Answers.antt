use Rattle.std.proofs.Common.{sym, ◌∙◌}
use Rattle.ltl_alt.proofs.ProductLaws.{joined_more, joins_each}
use Rattle.ltl_alt.proofs.product.join_each.Goals as goal
use Rattle.ltl_alt.proofs.product.join_each.Goals.{in-Some, in_default}

pub products-preserved : goal.products-preserved
products-preserved c = elim c.match-at_once.branch [
  | in-Some w ↦ joined_more c.args.one.now c.index-products-i.result w.in-Some.joined c.args.products.now c.products.products c.match-at_once.products c.products.i c.requires.consistent c.products-test.true c.products.invariant (sym w.in-Some.is ∙ c.at_once.ensures) w.products-is
  | in_default w ↦ absurd (joins_each c.args.one.now c.index-products-i.result c.args.products.now c.products.products c.products.i c.requires.consistent c.products-test.true c.products.invariant (sym w.in_default.is ∙ c.at_once.ensures))
]
