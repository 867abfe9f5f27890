use Rattle.std.proofs.Common.{refl}
use Rattle.ltl_check.proofs.PathLaws.{path_more}
use Rattle.ltl_check.proofs.ShortestLaws.{paid_then}
use Rattle.ltl_check.proofs.path.follow.Goals as goal

pub loop-i-preserved : goal.loop-i-preserved
loop-i-preserved g c = record {
  path = path_more (g.N.Numbered.net c.args.net.now) c.args.from c.loop-i.end c.loop-i.steps.items c.push.new.self.items c.loop-i.marks c.union-marks.result _ c.in-Some.step c.loop-i.invariant.path refl c.in-Some.ensures.found refl c.in_ok-push.ensures.items c.union-marks.ensures;
  paid = paid_then _ _ _ _ _ _ c.loop-i.invariant.paid c.look_within.ensures.paid;
}
