use Rattle.ltl_alt.proofs.SupportLaws.{added_leaves, added_nothing}
use Rattle.ltl_alt.proofs.support.with_leaves.Goals as goal

pub returns-then-is_put_off : goal.returns-then-is_put_off
returns-then-is_put_off c = added_leaves c.args.fulfilling c.args.leaves.now c.together.result c.args.is_put_off c.together.ensures

pub returns-else-is_put_off : goal.returns-else-is_put_off
returns-else-is_put_off c = added_nothing c.args.fulfilling c.args.leaves.now c.args.is_put_off c.if-is_put_off.false
