use Rattle.std.proofs.Common.{refl, ◌∙◌, ap, inr, arith, length-take}
use Rattle.std.proofs.lemmas.Result.{err_from_is_err_and}
use Rattle.ltl_streams.proofs.StreamLemmas.{stage_some, stage_at_end}
use Rattle.ltl_spec.specs.Tools.Stage.{Stage, Broken, behind}
use Rattle.ltl_hoa.proofs.StreamLaws.{ends_closed, read_none, read_more, end_answered, end_taken, whatever, no_answer, read_failed, past_answered, past_taken, taken_up_to, kept_up_to}
use Rattle.ltl_hoa.proofs.read.read_by.Goals as goal

pub pieces-init : goal.pieces-init
pieces-init g c = record { in_range = omega arith; read = read_none _ _ c.requires; same = refl; stays = λ e. e }

pub pieces-preserved : goal.pieces-preserved
pieces-preserved g c = record {
  in_range = omega (arith, length-take c.min-room.result c.pieces.chunk, c.in-Ok.ensures.bound);
  read = read_more _ _ _ _ _ _ _ _ _ c.pieces.invariant.read c.in-Ok.ensures.taken (omega (arith, c.in-Ok.ensures.bound)) (λ text a. c.in_ok-take_chunk-in-Ok.ensures text a);
  same = c.in-Ok.ensures.same ∙ c.pieces.invariant.same;
  stays = λ e. c.in-Ok.ensures.stage ∙ stage_some _ _ (omega arith);
}

pub returns-in-Ok-eq0-clause-read : goal.returns-in-Ok-eq0-clause-read
returns-in-Ok-eq0-clause-read g c =
    end_answered _ _ _ _ _ _ _ _ c.pieces.invariant.read c.in-Ok-eq0.field-0-test (omega (arith, length-take c.min-room.result c.pieces.chunk)) (c.in-Ok-eq0.ensures.taken, c.in-Ok-eq0.ensures.ended) c.finish.ensures.answers

pub returns-in-Ok-eq0-clause-taken : goal.returns-in-Ok-eq0-clause-taken
returns-in-Ok-eq0-clause-taken g c =
    whatever _ (end_taken _ _ _ _ _ _ _ c.pieces.invariant.read c.pieces.invariant.in_range c.in-Ok-eq0.field-0-test (omega (arith, length-take c.min-room.result c.pieces.chunk)) (c.in-Ok-eq0.ensures.taken, c.in-Ok-eq0.ensures.ended))

pub returns-in-Ok-eq0-read-clause-read : goal.returns-in-Ok-eq0-read-clause-read
returns-in-Ok-eq0-read-clause-read g c =
    end_answered _ _ _ _ _ _ _ _ c.pieces.invariant.read c.in-Ok-eq0-read.field-0-test (omega (arith, length-take 1 c.pieces.chunk)) (c.in-Ok-eq0-read.ensures.taken, c.in-Ok-eq0-read.ensures.ended) c.finish-in-Ok-eq0-read.ensures.answers

pub returns-in-Ok-eq0-read-clause-taken : goal.returns-in-Ok-eq0-read-clause-taken
returns-in-Ok-eq0-read-clause-taken g c =
    whatever _ (end_taken _ _ _ _ _ _ _ c.pieces.invariant.read c.pieces.invariant.in_range c.in-Ok-eq0-read.field-0-test (omega (arith, length-take 1 c.pieces.chunk)) (c.in-Ok-eq0-read.ensures.taken, c.in-Ok-eq0-read.ensures.ended))

pub returns-in-Ok-read-clause-read : goal.returns-in-Ok-read-clause-read
returns-in-Ok-read-clause-read g c =
    past_answered _ _ _ _ _ _ _ _ c.pieces.invariant.read (omega arith) (omega arith) (omega (arith, c.in-Ok-read.ensures.bound)) (omega (arith, length-take 1 c.pieces.chunk)) c.line.ensures
    c.in-Ok-read.ensures.taken

pub returns-in-Ok-read-clause-taken : goal.returns-in-Ok-read-clause-taken
returns-in-Ok-read-clause-taken g c =
    λ _. past_taken _ _ _ _ _ _ _ c.pieces.invariant.read (omega arith) (omega arith) (omega (arith, c.in-Ok-read.ensures.bound)) (omega (arith, length-take 1 c.pieces.chunk)) c.in-Ok-read.ensures.taken

pub returns-in_err-take_chunk-in-Ok-clause-read : goal.returns-in_err-take_chunk-in-Ok-clause-read
returns-in_err-take_chunk-in-Ok-clause-read g c =
    let p = err_from_is_err_and c.from_residual.result c.from_residual.ensures.1 in
    no_answer _ _ (λ text. rw (p.1, p.2) tt)

pub returns-in-Err-clause-read : goal.returns-in-Err-clause-read
returns-in-Err-clause-read g c = read_failed _

pub returns-in-Err-read-clause-read : goal.returns-in-Err-read-clause-read
returns-in-Err-read-clause-read g c = read_failed _

pub returns-in-Ok-eq0-clause-bounded : goal.returns-in-Ok-eq0-clause-bounded
returns-in-Ok-eq0-clause-bounded g c =
    taken_up_to _ _ _ _ _ _ _ c.pieces.invariant.read c.in-Ok-eq0.ensures.taken (omega (arith, c.in-Ok-eq0.field-0-test, c.pieces.invariant.in_range))

pub returns-in_err-take_chunk-in-Ok-clause-bounded : goal.returns-in_err-take_chunk-in-Ok-clause-bounded
returns-in_err-take_chunk-in-Ok-clause-bounded g c =
    taken_up_to _ _ _ _ _ _ _ c.pieces.invariant.read c.in-Ok.ensures.taken (omega (arith, length-take c.min-room.result c.pieces.chunk, c.in-Ok.ensures.bound))

pub returns-in-Err-clause-bounded : goal.returns-in-Err-clause-bounded
returns-in-Err-clause-bounded g c = kept_up_to _ _ _ _ _ c.pieces.invariant.read c.in-Err.ensures.kept c.pieces.invariant.in_range

pub returns-in-Ok-eq0-read-clause-bounded : goal.returns-in-Ok-eq0-read-clause-bounded
returns-in-Ok-eq0-read-clause-bounded g c =
    taken_up_to _ _ _ _ _ _ _ c.pieces.invariant.read c.in-Ok-eq0-read.ensures.taken (omega (arith, c.in-Ok-eq0-read.field-0-test, c.pieces.invariant.in_range))

pub returns-in-Ok-read-clause-bounded : goal.returns-in-Ok-read-clause-bounded
returns-in-Ok-read-clause-bounded g c =
    taken_up_to _ _ _ _ _ _ _ c.pieces.invariant.read c.in-Ok-read.ensures.taken (omega (arith, c.in-Ok-read.ensures.bound, length-take 1 c.pieces.chunk, c.pieces.invariant.in_range))

pub returns-in-Err-read-clause-bounded : goal.returns-in-Err-read-clause-bounded
returns-in-Err-read-clause-bounded g c = kept_up_to _ _ _ _ _ c.pieces.invariant.read c.in-Err-read.ensures.kept c.pieces.invariant.in_range

pub returns-in-Ok-eq0-clause-stage : goal.returns-in-Ok-eq0-clause-stage
returns-in-Ok-eq0-clause-stage g c =
    λ _. ends_closed _ _ (c.in-Ok-eq0.ensures.stage ∙ stage_at_end _ _ c.in-Ok-eq0.field-0-test (omega (arith, length-take c.min-room.result c.pieces.chunk))) c.finish.ensures.told

pub returns-in-Ok-eq0-read-clause-stage : goal.returns-in-Ok-eq0-read-clause-stage
returns-in-Ok-eq0-read-clause-stage g c =
    λ _. ends_closed _ _ (c.in-Ok-eq0-read.ensures.stage ∙ stage_at_end _ _ c.in-Ok-eq0-read.field-0-test (omega (arith, length-take 1 c.pieces.chunk))) c.finish-in-Ok-eq0-read.ensures.told

pub returns-in-Ok-read-clause-stage : goal.returns-in-Ok-read-clause-stage
returns-in-Ok-read-clause-stage g c = λ _. inr (refl, c.in-Ok-read.ensures.stage ∙ stage_some _ _ (omega arith))

pub returns-in_err-take_chunk-in-Ok-clause-stage : goal.returns-in_err-take_chunk-in-Ok-clause-stage
returns-in_err-take_chunk-in-Ok-clause-stage g c =
    let p = err_from_is_err_and c.from_residual.result c.from_residual.ensures.1 in
    λ _. rw (p.1, p.2) (inr (c.in-Ok.ensures.stage ∙ stage_some _ _ (omega arith)))

pub returns-in-Err-clause-stage : goal.returns-in-Err-clause-stage
returns-in-Err-clause-stage g c = λ e. c.in-Err.ensures.stage ∙ ap (λ (s : Stage). behind s Broken) (c.pieces.invariant.stays e)

pub returns-in-Err-read-clause-stage : goal.returns-in-Err-read-clause-stage
returns-in-Err-read-clause-stage g c = λ e. c.in-Err-read.ensures.stage ∙ ap (λ (s : Stage). behind s Broken) (c.pieces.invariant.stays e)
