use Rattle.std.proofs.Common.{◌∙◌, ◌≤◌, ◌<◌, ap, ap₂, arith, length, sym}
use Rattle.ltl_streams.proofs.PrintLaws.{lacks_all}
use Rattle.ltl_pictures.specs.Timeline.{column, mark}
use Rattle.ltl_word.specs.LassoView.{size}
use Rattle.ltl_word.specs.Rows.{bit_of}
use Rattle.ltl_pictures.proofs.LineLaws.{from_start, from_step, from_end}
use Rattle.ltl_pictures.proofs.columns.put_marks.Goals as goal

pub loop-i-init : goal.loop-i-init
loop-i-init g c = from_start (λ i. column (length c.args.word.now.stem) i (mark (bit_of c.args.row.now i))) (size c.args.word.now) (lacks_all _ _)

pub loop-i-preserved : goal.loop-i-preserved
loop-i-preserved g c =
    let l : c.loop-i.i < size c.args.word.now = omega arith in
    from_step (λ i. column (length c.args.word.now.stem) i (mark (bit_of c.args.row.now i))) (size c.args.word.now) c.loop-i.i l c.loop-i.invariant
    (sym (ap₂ (λ s d. column s c.loop-i.i d) c.stem_len.ensures.stem (c.mark.ensures ∙ ap mark c.get.ensures))) c.put_column.ensures

pub returns : goal.returns
returns g c =
    let l : size c.args.word.now ≤ c.loop-i.i = omega arith in
    from_end (λ i. column (length c.args.word.now.stem) i (mark (bit_of c.args.row.now i))) (size c.args.word.now) c.loop-i.i l c.loop-i.invariant
