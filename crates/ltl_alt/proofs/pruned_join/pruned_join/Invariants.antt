use Rattle.std.proofs.Common.{◌++◌, take}
use Rattle.ltl_alt.specs.StandIns.{AreKept, joins_by_right}
use Rattle.ltl_alt.proofs.pruned_join.pruned_join.Given as goal

abbrev pub invariant-right : goal.invariant-right
invariant-right g l = AreKept l.pruning.rule l.pruning.fulfilment.now (joins_by_right l.left (take l.q-index l.fn.right)) (l.kept.items ++ l.once.keys)
