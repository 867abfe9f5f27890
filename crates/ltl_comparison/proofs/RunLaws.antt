-- What a run shows.
use Rattle.std.proofs.Common.{◌≡◌, ◌∙◌, sym, subst, refl, ℕ, ◌≤◌, inl, inr, List, [], take, Option, Some, None, arith}
use Rattle.std.specs.Prelude.{Result, Ok, Err}
use Rattle.ltl_spec.specs.Checking.Comparison.{Comparison}
use Rattle.ltl_spec.specs.Tools.Comparer.{ComparerAnswers, ComparerPlan, MayCompare, comparer_refused, comparison_answer, relation_status}
use Rattle.ltl_spec.specs.Tools.Limits.{stated_limits}
use Rattle.ltl_spec.specs.Tools.Refusal as spec
use Rattle.ltl_spec.specs.Tools.Stage.{Broken, Open}
use Rattle.ltl_spec.specs.Tools.Outcome.{Answer, Input, IsBeginningOf, IsGiven, Seen, TellsMessage}
use Rattle.ltl_spec.specs.Semantics.Word.{Lasso}
use Rattle.ltl_streams.specs.Streams.{Breaks, SinkState}
use Rattle.ltl_words.specs.Tools.{status_number}
use Rattle.ltl_words.specs.declared.status.Status.{Status}
use Rattle.ltl_cli.specs.Refusals.{refusal_of}
use Rattle.ltl_cli.specs.Runs.{Finishes, IsTold, Shows}
use Rattle.ltl_cli.specs.declared.refusal.Refusal.{Refusal}
use Rattle.ltl_cli.proofs.RunLaws.{answer_closed, refusal_open, wrote_nothing}
use Rattle.ltl_comparison.specs.Comparisons.{RefusesPlan}
use Rattle.ltl_comparison.specs.Refusals.{not_written, subject_in}
use Rattle.ltl_comparison.specs.Runs.{IsOutcome, message_with, status_with}
use Rattle.ltl_comparison.specs.declared.refusal.Refused.{Refused}

module _ {Promise : Seen → Type 0} (o : SinkState) (open_before : o.stage ≡ Open) where
  -- nothing was printed
  pub refused_outcome : (e : Refused) → ((seen : Seen) → IsGiven seen (comparer_refused stated_limits (subject_in e.subject) (refusal_of e.refusal)) → Promise seen) → IsOutcome Promise o o (Err e)
  refused_outcome e f = record {
    output = [];
    written = wrote_nothing o.bytes;
    same = refl;
    ends = λ seen w b s t. f seen (s, w, b ∙ open_before ∙ sym (refusal_open (refusal_of e.refusal)), t);
  }

  module _ (n : SinkState) (a : Answer) (silent : a.message ≡ []) where
    -- an answer went out whole
    pub printed_outcome : (s : Status) → a.status ≤ 1 → status_number s ≡ a.status → Finishes o n a.output → ((seen : Seen) → IsGiven seen a → Promise seen) → IsOutcome Promise o n (Ok s)
    printed_outcome s low e w f = record {
      output = a.output;
      written = w.grown;
      same = w.same;
      ends = λ seen x b q t. f seen (q ∙ e, x, b ∙ w.stage open_before ∙ sym (answer_closed a.status low), subst (λ (m : List ℕ). TellsMessage m seen) (sym silent) t);
    }

    -- a call on the output failed
    pub cut_outcome : Breaks o n a.output
        → ((seen : Seen) → seen.status ≡ spec.status_of spec.CannotWrite → IsBeginningOf seen.output a.output → seen.output_stage ≡ Broken → TellsMessage (message_with (Err not_written)) seen → Promise seen)
        → IsOutcome Promise o n (Err not_written)
    cut_outcome w f = record {
      output = take w.count a.output;
      written = w.grown;
      same = w.same;
      ends = λ seen x b q t. f seen q (w.count, x) (b ∙ w.stage open_before) t;
    }

-- ---- of a plan

low_status : (v w : Option Lasso) → relation_status v w ≤ 1
low_status None None = omega arith
low_status (Some v) w = omega arith
low_status None (Some w) = omega arith

module _ (p : ComparerPlan) (first second : Input) (o : SinkState) (open_before : o.stage ≡ Open) where
  pub plan_refused : (e : Refused) → RefusesPlan p first second e → IsOutcome (MayCompare stated_limits p first second) o o (Err e)
  plan_refused e (inl (m, n)) = refused_outcome o open_before e (λ seen g. inr (inl (n, subst (λ (x : Refusal). IsGiven seen (comparer_refused stated_limits (subject_in e.subject) (refusal_of x))) m g)))
  plan_refused e (inr h) = refused_outcome o open_before e (λ seen g. inl (comparer_refused stated_limits (subject_in e.subject) (refusal_of e.refusal), h, g))

  module _ (n : SinkState) (c : Comparison) (right : ComparerAnswers stated_limits p first second (comparison_answer c)) where
    pub plan_answered : (s : Status) → status_number s ≡ (comparison_answer c).status → Finishes o n (comparison_answer c).output → IsOutcome (MayCompare stated_limits p first second) o n (Ok s)
    plan_answered s e w = printed_outcome o open_before n (comparison_answer c) refl s (low_status c.first_only c.second_only) e w (λ seen g. inl (comparison_answer c, right, g))

    pub plan_cut_off : Breaks o n (comparison_answer c).output → IsOutcome (MayCompare stated_limits p first second) o n (Err not_written)
    plan_cut_off w = cut_outcome o open_before n (comparison_answer c) refl w (λ seen q x b t. inr (inr (comparison_answer c, right, refl, q, x, b, t)))

-- an outcome and its message
pub outcome_shows : {Promise : Seen → Type 0} (o n mo mn : SinkState) (status : ℕ) (r : Result Status Refused) → IsOutcome Promise o n r → status ≡ status_with r → mo.stage ≡ Open
    → IsTold mo mn (message_with r) → Shows Promise o n mo mn status
outcome_shows o n mo mn status r h s g (inl m) = record {
  output = h.output;
  message = message_with r;
  written = h.written;
  told = m.grown;
  promised = h.ends _ refl refl s (inl (refl, m.stage g));
}
outcome_shows o n mo mn status r h s g (inr (l, m)) = record {
  output = h.output;
  message = take m.count (message_with r);
  written = h.written;
  told = m.grown;
  promised = h.ends _ refl refl s (inr (l, (m.count, refl), m.stage g));
}
