use Rattle.std.proofs.Common.{ℕ, List, subst, sym}
use Rattle.std.proofs.lemmas.Result.{err_from_is_err_and}
use Rattle.ltl_text.specs.NamedText.{named_text}
use Rattle.ltl_reduction.specs.Runs.{IsReducedText}
use Rattle.ltl_reduction.proofs.RunLaws.{all_printed, automaton_refused, reduced_makes, some_printed}
use Rattle.ltl_reduction.proofs.reduction.printed.Goals as goal

pub returns-in_err-reduction : goal.returns-in_err-reduction
returns-in_err-reduction g c =
    let (input, s, h) = c.in_err-reduction.ensures in
    let p = err_from_is_err_and c.from_residual.result c.from_residual.ensures.1 in
    (input, s, rw (p.1, p.2) (λ request e. automaton_refused input _ c.requires.output request _ h))

pub returns-in_err-printed : goal.returns-in_err-printed
returns-in_err-printed g c =
    let (input, s, (reads, made)) = c.in_ok-reduction.ensures in
    let p = err_from_is_err_and c.from_residual-in_err-printed.result c.from_residual-in_err-printed.ensures.1 in
    let w = (rw c.in_err-printed.was at c.flushed-printed.ensures.err) _ _ c.put_named.ensures.ok c.put_named.ensures.err in
    let R = c.in_ok-reduction.reduction in
    let text = subst (λ (ns : List (List ℕ)). IsReducedText R.given (named_text R.made ns)) (sym c.names-names.ensures) made in
    (input, s, rw (p.1, p.2) (λ request e. some_printed input _ c.requires.output request _ _ reads _ (reduced_makes request.claim _ _ e text) w))

pub returns : goal.returns
returns g c =
    let (input, s, (reads, made)) = c.in_ok-reduction.ensures in
    let w = (rw c.in_ok-printed.was at c.flushed-printed.ensures.ok) _ _ c.put_named.ensures.ok in
    let R = c.in_ok-reduction.reduction in
    let text = subst (λ (ns : List (List ℕ)). IsReducedText R.given (named_text R.made ns)) (sym c.names-names.ensures) made in
    (input, s, λ request e. all_printed input _ c.requires.output request _ _ reads _ (reduced_makes request.claim _ _ e text) _ w)
