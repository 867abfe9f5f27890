use Rattle.std.proofs.Common.{◌-◌, replicate}
use Rattle.ltl_streams.proofs.PrintLaws.{Lacks}
use Rattle.ltl_pictures.proofs.lines.put_blanks.Given as goal

abbrev pub invariant-blanks : goal.invariant-blanks
invariant-blanks g l = Lacks g.S.ByteSink.state l.fn.out l.out (replicate (l.to - l.at) 32) (replicate (l.to - l.from) 32)

abbrev pub decreases-blanks : goal.decreases-blanks
decreases-blanks g l = l.to - l.at
