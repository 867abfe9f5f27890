use Rattle.std.proofs.Common.{take}
use Rattle.ltl_automaton.proofs.NetLaws.{took}
use Rattle.ltl_passes.proofs.RunLaws.{put_next}
use Rattle.ltl_passes.proofs.implied.put_all.Goals as goal

pub loop-item-preserved : goal.loop-item-preserved
loop-item-preserved g c =
    let taken = took c.args.run.now c.loop-item.item-index c.item-item.result c.loop-item-test.true c.item-item.is in
    put_next c.args.kept.now.items c.loop-item.kept.items c.push.new.self.items (take c.loop-item.item-index c.args.run.now) _ c.item-item.result c.loop-item.invariant c.in_ok-push.ensures.items taken
