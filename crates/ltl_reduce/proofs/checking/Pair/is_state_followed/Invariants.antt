use Rattle.ltl_reduce.specs.Matching.{AreFollowedTo}
use Rattle.ltl_reduce.proofs.checking.Pair.is_state_followed.Given as goal

abbrev pub invariant-loop-t : goal.invariant-loop-t
invariant-loop-t g l = AreFollowedTo l.self.first.now l.self.second.now l.self.to l.self.from l.s l.t
