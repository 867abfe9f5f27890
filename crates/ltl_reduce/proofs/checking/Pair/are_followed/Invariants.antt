use Rattle.ltl_reduce.specs.Matching.{AreFollowed}
use Rattle.ltl_reduce.proofs.checking.Pair.are_followed.Given as goal

abbrev pub invariant-loop-s : goal.invariant-loop-s
invariant-loop-s g l = AreFollowed l.self.first.now l.self.second.now l.self.to l.self.from l.s
