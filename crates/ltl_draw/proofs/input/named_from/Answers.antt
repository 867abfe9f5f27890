use Rattle.std.proofs.Common.{subst, List, ℕ}
use Rattle.std.proofs.lemmas.Result.{err_from_is_err_and}
use Rattle.ltl_cli.specs.Refusals.{TakesStep}
use Rattle.ltl_draw.specs.Runs.{ReadsNamedText}
use Rattle.ltl_draw.proofs.NamedLaws.{named_found, named_unread}
use Rattle.ltl_draw.proofs.input.named_from.Goals as goal

pub returns-in_err-text : goal.returns-in_err-text
returns-in_err-text g c =
    let p = err_from_is_err_and c.from_residual.result c.from_residual.ensures.1 in
    rw (p.1, p.2) (named_unread _ _ _ c.in_err-text.ensures.ways)

pub returns : goal.returns
returns g c =
    named_found _ _ _ _ c.in_ok-text.ensures.text c.in_ok-text.ensures.ways
    (subst (λ (t : List ℕ). TakesStep (ReadsNamedText t) (λ N. N) c.named_in.result) c.as_slice.ensures.value c.named_in.ensures)
