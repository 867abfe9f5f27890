use Rattle.std.proofs.Common.{subst, List, ℕ}
use Rattle.std.proofs.lemmas.Result.{err_from_is_err_and}
use Rattle.ltl_word.specs.ReadText.{IsRefusedFor}
use Rattle.ltl_draw.proofs.TimelineLaws.{word_refused}
use Rattle.ltl_draw.proofs.timeline.word_of.Goals as goal

pub returns-in_err-word : goal.returns-in_err-word
returns-in_err-word g c =
    let p = err_from_is_err_and c.from_residual.result c.from_residual.ensures.1 in
    rw (p.1, p.2) (word_refused c.args.formula.now.names _ _ (subst (λ (t : List ℕ). IsRefusedFor c.args.formula.now.names t c.in_err-word.field-0.0) c.as_bytes.ensures.value c.in_err-word.ensures))
