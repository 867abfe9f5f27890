use Rattle.ltl_sets.proofs.LaneLaws.{fold_Decides}
use Rattle.ltl_sets.proofs.lanes.is_zero.Goals as goal

pub returns : goal.returns
returns c = fold_Decides c.args.lanes c.requires
