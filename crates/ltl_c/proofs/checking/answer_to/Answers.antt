use Rattle.std.proofs.Common.{◌∙◌, ap, ap₂, inr, ◌≡◌}
use Rattle.std.proofs.lemmas.Result.{err_from_is_err_and}
use Rattle.std.specs.Prelude.{Ok}
use Rattle.ltl_check.specs.VerdictView.{verdict_of}
use Rattle.ltl_c.specs.Verdicts.{FindsAsked, is_contained, said, word_text}
use Rattle.ltl_c.proofs.StepLaws.{first_refused}
use Rattle.ltl_c.proofs.checking.answer_to.Goals as goal

pub returns-in_err-verdict : goal.returns-in_err-verdict
returns-in_err-verdict g c =
    let p = err_from_is_err_and c.from_residual.result c.from_residual.ensures.1 in
    rw (p.1, p.2) (first_refused (FindsAsked c.args.formula.now c.args.automaton.now) (λ v r. r ≡ Ok (said (is_contained v) (word_text v))) _ c.in_err-verdict.ensures)

pub returns : goal.returns
returns g c =
    inr (
      verdict_of c.in_ok-verdict.verdict.outcome,
      c.in_ok-verdict.ensures,
      ap₂ (λ b t. Ok (said b t)) (c.has_none-contained.ensures ∙ ap (λ o. is_contained (verdict_of o)) c.outcome-2.ensures)
          (c.in_ok-text.ensures ∙ ap (λ o. word_text (verdict_of o)) c.outcome.ensures),
    )
