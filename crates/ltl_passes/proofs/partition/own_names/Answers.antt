use Rattle.ltl_passes.proofs.ClassLaws.{range_next}
use Rattle.ltl_passes.proofs.partition.own_names.Goals as goal

pub loop-s-preserved : goal.loop-s-preserved
loop-s-preserved g c = range_next c.loop-s.s c.loop-s.names.items c.push.new.self.items c.loop-s.invariant c.in_ok-push.ensures.items
