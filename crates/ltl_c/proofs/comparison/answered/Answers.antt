use Rattle.std.proofs.Common.{◌∙◌}
use Rattle.std.proofs.lemmas.Result.{err_from_is_err_and}
use Rattle.ltl_compare.specs.ComparisonView.{comparison_of}
use Rattle.ltl_c.specs.Comparisons.{texts}
use Rattle.ltl_c.proofs.ComparisonLaws.{memory_refused, refused_texts, told_of}
use Rattle.ltl_c.proofs.comparison.answered.Goals as goal

pub returns-in_err-comparison : goal.returns-in_err-comparison
returns-in_err-comparison g c =
    let (y, q, k) = err_from_is_err_and c.from_residual.result c.from_residual.ensures.1 in
    refused_texts c.args.first.now c.args.second.now _ c.from_residual.result y c.in_err-comparison.field-0.0 q k c.in_err-comparison.ensures

pub returns-in_err-first_only : goal.returns-in_err-first_only
returns-in_err-first_only g c =
    let (d, h, same) = c.in_ok-comparison.ensures in
    let (y, q, k) = err_from_is_err_and c.from_residual-in_err-first_only.result c.from_residual-in_err-first_only.ensures.1 in
    refused_texts c.args.first.now c.args.second.now _ c.from_residual-in_err-first_only.result y c.in_err-first_only.field-0.0 q k
    (rw c.in_err-first_only.ensures (memory_refused c.args.first.now c.args.second.now d h))

pub returns-in_err-second_only : goal.returns-in_err-second_only
returns-in_err-second_only g c =
    let (d, h, same) = c.in_ok-comparison.ensures in
    let (y, q, k) = err_from_is_err_and c.from_residual-in_err-second_only.result c.from_residual-in_err-second_only.ensures.1 in
    refused_texts c.args.first.now c.args.second.now _ c.from_residual-in_err-second_only.result y c.in_err-second_only.field-0.0 q k
    (rw c.in_err-second_only.ensures (memory_refused c.args.first.now c.args.second.now d h))

pub returns : goal.returns
returns g c =
    let (d, h, same) = c.in_ok-comparison.ensures in
    told_of c.args.first.now c.args.second.now (comparison_of c.in_ok-comparison.comparison) d h same (texts c.in_ok-first_only.first_only.items c.in_ok-second_only.second_only.items) c.in_ok-first_only.ensures
    c.in_ok-second_only.ensures c.found_for-compared.result
    (c.found_for-compared.ensures (c.as_slice.ensures.value ∙ c.in_ok-first_only.ensures) (c.as_slice-2.ensures.value ∙ c.in_ok-second_only.ensures)) c.status_of-status.result c.status_of-status.ensures
