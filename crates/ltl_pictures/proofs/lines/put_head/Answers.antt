use Rattle.std.proofs.Common.{◌≡◌, ◌∙◌, ◌-◌, ap, arith, length, suc, sym, zero}
use Rattle.std.specs.Fmt.{decimal}
use Rattle.ltl_pictures.specs.Timeline.{digit_count, number_lines}
use Rattle.ltl_streams.proofs.PrintLaws.{lacks_all, lacks_end, lacks_step, prints_nothing}
use Rattle.ltl_pictures.proofs.lines.put_head.Goals as goal

pub lines-init : goal.lines-init
lines-init g c =
    let same : length c.as_slice-left.result.now ≡ digit_count c.args.word.now =
    ap length (c.as_slice-left.ensures ∙ c.of-greatest.ensures ∙ ap decimal (c.saturating_sub.ensures ∙ ap (λ n. n - 1) c.len.ensures)) in
    lacks_step (lacks_all _ _) _ (ap (number_lines c.args.width c.args.word.now) (sym same)) (prints_nothing _)

pub lines-preserved : goal.lines-preserved
lines-preserved g c =
    let one_more : c.lines.left ≡ suc (c.lines.left - 1) = omega (arith, c.lines-test.true) in
    lacks_step c.lines.invariant _ (ap (number_lines c.args.width c.args.word.now) one_more) c.put_number_line.ensures

pub returns : goal.returns
returns g c =
    let none : c.lines.left ≡ zero = omega (arith, c.lines-test.false) in
    lacks_end c.lines.invariant (ap (number_lines c.args.width c.args.word.now) none)
