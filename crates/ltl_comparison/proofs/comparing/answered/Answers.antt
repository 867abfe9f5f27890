use Rattle.std.proofs.lemmas.Result.{err_from_is_err_and}
use Rattle.ltl_words.specs.Comparer.{pair_planned}
use Rattle.ltl_compare.specs.ComparisonView.{comparison_of}
use Rattle.ltl_comparison.proofs.RunLaws.{plan_answered, plan_cut_off, plan_refused}
use Rattle.ltl_comparison.proofs.comparing.answered.Goals as goal

pub returns-in_err-comparison : goal.returns-in_err-comparison
returns-in_err-comparison g c =
    let (input, s, other, t, h) = c.in_err-comparison.ensures in
    let p = err_from_is_err_and c.from_residual.result c.from_residual.ensures.1 in
    (input, s, other, t, rw (p.1, p.2) (plan_refused (pair_planned c.args.plan.now) input other _ c.requires.output _ h))

pub returns-in_err-printed : goal.returns-in_err-printed
returns-in_err-printed g c =
    let (input, s, other, t, h) = c.in_ok-comparison.ensures in
    let p = err_from_is_err_and c.from_residual-in_err-printed.result c.from_residual-in_err-printed.ensures.1 in
    let w = rw c.in_err-printed.was at c.print-printed.ensures.err in
    (input, s, other, t, rw (p.1, p.2) (plan_cut_off (pair_planned c.args.plan.now) input other _ c.requires.output _ (comparison_of c.in_ok-comparison.comparison) h w))

pub returns : goal.returns
returns g c =
    let (input, s, other, t, h) = c.in_ok-comparison.ensures in
    let w = rw c.in_ok-printed.was at c.print-printed.ensures.ok in
    (input, s, other, t, plan_answered (pair_planned c.args.plan.now) input other _ c.requires.output _ (comparison_of c.in_ok-comparison.comparison) h _ c.status_of-status.ensures w)
