use Rattle.std.proofs.Common.{rules}
use Rattle.ltl_reduce.proofs.CheckLaws.{all_followed_next}
use Rattle.ltl_reduce.proofs.checking.Pair.are_followed.Goals as goal

pub loop-s-preserved : goal.loop-s-preserved
loop-s-preserved g c = all_followed_next c.args.self.now.first.now c.args.self.now.second.now c.args.self.now.to c.args.self.now.from c.loop-s.s c.loop-s.invariant (c.is_state_followed.ensures (search rules))
