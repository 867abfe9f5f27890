use Rattle.least.proofs.BlockLaws.{left_begins, left_step}
use Rattle.least.proofs.block.without_columns.Goals as goal

pub elements-init : goal.elements-init
elements-init g c = left_begins c.args.all c.args.columns.now c.args.elements.now c.iter-rest.result c.iter-rest.ensures.members

pub elements-preserved : goal.elements-preserved
elements-preserved g c = left_step c.args.all c.args.columns.now c.args.elements.now c.elements.rest c.next.new.self c.elements.left c.without-left.result c.column.result c.in-Some.e c.in-Some.ensures.steps c.column.ensures c.without-left.ensures c.elements.invariant

pub returns : goal.returns
returns g c = c.elements.invariant.left
