use Rattle.ltl_pictures.specs.Timeline.{digit_count, number_lines}
use Rattle.ltl_streams.proofs.PrintLaws.{Lacks}
use Rattle.ltl_pictures.proofs.lines.put_head.Given as goal

abbrev pub invariant-lines : goal.invariant-lines
invariant-lines g l = Lacks g.S.ByteSink.state l.fn.out l.out (number_lines l.width l.word l.left) (number_lines l.width l.word (digit_count l.word))

abbrev pub decreases-lines : goal.decreases-lines
decreases-lines g l = l.left
