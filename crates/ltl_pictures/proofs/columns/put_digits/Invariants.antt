use Rattle.std.proofs.Common.{length}
use Rattle.ltl_pictures.specs.Timeline.{column, digit, texts_from}
use Rattle.ltl_word.specs.LassoView.{size}
use Rattle.ltl_pictures.proofs.LineLaws.{LacksFrom}
use Rattle.ltl_pictures.proofs.columns.put_digits.Given as goal

abbrev pub invariant-loop-i : goal.invariant-loop-i
invariant-loop-i g l =
    LacksFrom (λ i. column (length l.word.stem) i (digit l.k i)) (size l.word) l.i g.S.ByteSink.state l.fn.out l.out
    (texts_from (λ i. column (length l.word.stem) i (digit l.k i)) 0 (size l.word))
