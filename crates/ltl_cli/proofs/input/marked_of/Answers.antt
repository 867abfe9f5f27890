use Rattle.std.proofs.Common.{List, ℕ, ap, subst, Some}
use Rattle.std.proofs.lemmas.Result.{err_from_is_err_and}
use Rattle.std.specs.Prelude.{Err}
use Rattle.ltl_hoa.specs.Reading.{AnswersHeld}
use Rattle.ltl_streams.specs.StageView.{stage_of}
use Rattle.ltl_cli.proofs.TextLaws.{automaton_refused, never_broken}
use Rattle.ltl_cli.proofs.input.marked_of.Goals as goal

pub returns-in_err-automaton : goal.returns-in_err-automaton
returns-in_err-automaton g c =
    let p = err_from_is_err_and c.from_residual.result c.from_residual.ensures.1 in
    let read = c.in_err-automaton.ensures in
    let fault = c.in_err-automaton.field-0.0 in
    rw (p.1, p.2) (automaton_refused c.args.text.now fault (subst (λ (t : List ℕ). AnswersHeld (Some t) (Err fault)) c.new-source.ensures.rest read.read)
    (never_broken fault c.hoa_read_from.new.source.stage (read.stage (ap stage_of c.new-source.ensures.stage)) c.hoa_read_from.new.source.unbroken))
