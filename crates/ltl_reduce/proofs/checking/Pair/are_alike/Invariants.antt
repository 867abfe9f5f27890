use Rattle.ltl_reduce.specs.Matching.{AreAlikeTo}
use Rattle.ltl_reduce.proofs.checking.Pair.are_alike.Given as goal

abbrev pub invariant-loop-s : goal.invariant-loop-s
invariant-loop-s g l = AreAlikeTo l.self.first.now l.self.second.now l.self.to l.self.from l.numbers l.s
