-- What a timeline's run shows.
use Rattle.std.proofs.Common.{◌≡◌, ◌∙◌, ◌⊎◌, sym, subst, refl, ℕ, inl, inr, List, [], Bool, Some, None}
use Rattle.std.specs.Prelude.{Result, Ok, Err, MatchResult}
use Rattle.ltl_spec.specs.Semantics.Word.{Lasso, Name}
use Rattle.ltl_spec.specs.Tools.Limits.{stated_limits}
use Rattle.ltl_spec.specs.Tools.Programs.{InputReads, ReadsFormula, ReadsWord}
use Rattle.ltl_spec.specs.Tools.Stage.{Open}
use Rattle.ltl_spec.specs.Tools.Outcome.{Input, Text, printed, taken}
use Rattle.ltl_spec.proofs.Tools.StepLaws.{never, same_ok, then_ok}
use Rattle.ltl_streams.specs.Streams.{Breaks, Fails, SinkState, Takes}
use Rattle.ltl_syntax.specs.FormulaView.{FormulaView, IsFormula, reading_of}
use Rattle.ltl_word.specs.ReadText as word
use Rattle.ltl_word.specs.declared.fault.WordFault.{WordFault}
use Rattle.ltl_word.specs.declared.fault.WordFault.TheVariants as fault
use Rattle.ltl_cli.specs.declared.refusal.Refusal.{Refusal}
use Rattle.ltl_cli.specs.declared.refusal.Refusal.TheVariants.{OutOfMemory}
use Rattle.ltl_cli.specs.Refusals.{TakesStep, of_word, refusal_of}
use Rattle.ltl_cli.specs.Runs.{Finishes}
use Rattle.ltl_cli.proofs.MessageLaws.{flush_fails}
use Rattle.ltl_pictures.specs.Timeline.{IsTruth, timeline, word_timeline}
use Rattle.ltl_pictures.specs.TimelineView.{FailsToShow, HasTrueMarks}
use Rattle.ltl_pictures.specs.declared.fault.TimelineFault.{TimelineFault}
use Rattle.ltl_pictures.specs.declared.fault.TimelineFault.TheVariants as timeline_fault
use Rattle.ltl_draw.specs.Plans.{Timeline}
use Rattle.ltl_draw.specs.Runs.{DrawAnswers, IsOutcome, IsSent, of_timeline}
use Rattle.ltl_draw.proofs.RunLaws.{all_printed, nothing_printed, some_printed}

-- ---- texts that are refused

-- an input that is this text reads as the text does
pub formula_step : (bytes text : List ℕ) → bytes ≡ text → (r : Result FormulaView Refusal) → TakesStep (InputReads stated_limits (Text bytes)) reading_of r → TakesStep (ReadsFormula stated_limits text) reading_of r
formula_step bytes text e (Ok f) h =
    let (t, s, k) = then_ok (λ r. r ≡ taken stated_limits.formula_bytes (Text bytes)) (ReadsFormula stated_limits) (reading_of f) h in
    subst (λ (x : List ℕ). ReadsFormula stated_limits x (Ok (reading_of f))) (same_ok t bytes s ∙ e) k
formula_step bytes text e (Err f) (inl m) = inl m
formula_step bytes text e (Err f) (inr (inl (x, s, q))) = absurd (never bytes x s)
formula_step bytes text e (Err f) (inr (inr (t, s, k))) = inr (subst (λ (x : List ℕ). ReadsFormula stated_limits x (Err (refusal_of f))) (same_ok t bytes s ∙ e) k)

pub word_refused : (names : List Name) (text : List ℕ) (f : WordFault) → word.IsRefusedFor names text f → (of_word f ≡ OutOfMemory) ⊎ ReadsWord stated_limits names text (Err (refusal_of (of_word f)))
word_refused names text fault.TooLong h = inr h
word_refused names text (fault.BadWord place) h = inr h
word_refused names text fault.TooManyPropositions h = inr h
word_refused names text fault.OutOfMemory h = inl refl

-- ---- the flush behind a text

pub flush_broke : {o m n : SinkState} (text : List ℕ) → Takes o m text → Fails m n → Breaks o n text
flush_broke text p q = flush_fails {T = Unit {0}} {E = Unit {0}} (Err tt) _ _ q _ text p tt

-- ---- outcomes

right_word : (input : Input) (text : List ℕ) (names : List Name) → names ≡ [] → (w : Lasso) → ReadsWord stated_limits names text (Ok w) → DrawAnswers (Ok (Timeline text None)) input (printed (word_timeline w) 0)
right_word input text names none w reads = (Ok (word_timeline w), inr (w, subst (λ (ns : List Name). ReadsWord stated_limits ns text (Ok w)) none reads, refl), refl)

right_both : (input : Input) (text formula : List ℕ) (f : FormulaView) → IsFormula f.nodes f.names → ReadsFormula stated_limits formula (Ok (reading_of f)) → (w : Lasso)
    → ReadsWord stated_limits f.names text (Ok w) → (truth : ℕ → ℕ → Bool) → IsTruth f w truth → DrawAnswers (Ok (Timeline text (Some formula))) input (printed (timeline f w truth) 0)
right_both input text formula f shaped reads w beside truth true_marks =
    (Ok (timeline f w truth), inr (reading_of f, reads, inr (w, beside, (f, shaped, refl, (truth, true_marks, refl)))), refl)

module _ {T : Type 0} (input : Input) (o : SinkState) (open_before : o.stage ≡ Open) (text : List ℕ) where
  -- the word alone was refused
  pub word_unread : (names : List Name) → names ≡ [] → (e : Refusal) → (e ≡ OutOfMemory) ⊎ ReadsWord stated_limits names text (Err (refusal_of e)) → IsOutcome {T = T} (Ok (Timeline text None)) input o o (Err e)
  word_unread names n e (inl m) = nothing_printed input o open_before (Ok (Timeline text None)) e (inl (m, λ z. z))
  word_unread names n e (inr h) =
      nothing_printed input o open_before (Ok (Timeline text None)) e
      (inr (Err (refusal_of e), inl (refusal_of e, subst (λ (ns : List Name). ReadsWord stated_limits ns text (Err (refusal_of e))) n h, refl), refl))

  -- the formula was refused
  pub formula_unread : (formula : List ℕ) (e : Refusal) → (e ≡ OutOfMemory) ⊎ ReadsFormula stated_limits formula (Err (refusal_of e)) → IsOutcome {T = T} (Ok (Timeline text (Some formula))) input o o (Err e)
  formula_unread formula e (inl m) = nothing_printed input o open_before (Ok (Timeline text (Some formula))) e (inl (m, λ z. z))
  formula_unread formula e (inr h) = nothing_printed input o open_before (Ok (Timeline text (Some formula))) e (inr (Err (refusal_of e), inl (refusal_of e, h, refl), refl))

  -- the word beside it was refused
  pub word_beside_unread : (formula : List ℕ) (f : FormulaView) → ReadsFormula stated_limits formula (Ok (reading_of f)) → (e : Refusal)
      → (e ≡ OutOfMemory) ⊎ ReadsWord stated_limits f.names text (Err (refusal_of e)) → IsOutcome {T = T} (Ok (Timeline text (Some formula))) input o o (Err e)
  word_beside_unread formula f reads e (inl m) = nothing_printed input o open_before (Ok (Timeline text (Some formula))) e (inl (m, λ z. z))
  word_beside_unread formula f reads e (inr h) =
      nothing_printed input o open_before (Ok (Timeline text (Some formula))) e
      (inr (Err (refusal_of e), inr (reading_of f, reads, inl (refusal_of e, h, refl)), refl))

  -- the table of the word alone
  module _ (n : SinkState) (names : List Name) (none : names ≡ []) (w : Lasso) (reads : ReadsWord stated_limits names text (Ok w)) where
    word_printed : (x : T) → Finishes o n (word_timeline w) → IsOutcome {T = T} (Ok (Timeline text None)) input o n (Ok x)
    word_printed x h = all_printed input o open_before (Ok (Timeline text None)) n (word_timeline w) (right_word input text names none w reads) x h

    word_cut_off : (f : TimelineFault) (e : Refusal) → e ≡ of_timeline f → FailsToShow o n (λ P. P (word_timeline w)) f → IsOutcome {T = T} (Ok (Timeline text None)) input o n (Err e)
    word_cut_off timeline_fault.CannotWrite e q h =
        subst (λ (x : Refusal). IsOutcome {T = T} (Ok (Timeline text None)) input o n (Err x)) (sym q)
        (some_printed input o open_before (Ok (Timeline text None)) n (word_timeline w) (right_word input text names none w reads) h)
    word_cut_off timeline_fault.OutOfMemory e q h =
        subst (λ (s : SinkState). IsOutcome {T = T} (Ok (Timeline text None)) input o s (Err e)) (sym h)
        (nothing_printed input o open_before (Ok (Timeline text None)) e (inl (q, λ z. z)))

    pub word_ended : (s : Result T TimelineFault) (r : Result T Refusal) → MatchResult s (λ x. r ≡ Ok x) (λ fault. r ≡ Err (of_timeline fault)) → IsSent (λ P. P (word_timeline w)) o n s → IsOutcome (Ok (Timeline text None)) input o n r
    word_ended (Ok x) r e h = subst (λ (y : Result T Refusal). IsOutcome (Ok (Timeline text None)) input o n y) (sym e) (word_printed x h)
    word_ended (Err f) r e h = subst (λ (y : Result T Refusal). IsOutcome (Ok (Timeline text None)) input o n y) (sym e) (word_cut_off f (of_timeline f) refl h)

  -- the table of both
  module _ (n : SinkState) (formula : List ℕ) (f : FormulaView) (shaped : IsFormula f.nodes f.names) (reads : ReadsFormula stated_limits formula (Ok (reading_of f)))
      (w : Lasso) (beside : ReadsWord stated_limits f.names text (Ok w)) where
    both_printed : (x : T) → HasTrueMarks f w (Finishes o n) → IsOutcome {T = T} (Ok (Timeline text (Some formula))) input o n (Ok x)
    both_printed x (truth, true_marks, h) = all_printed input o open_before (Ok (Timeline text (Some formula))) n (timeline f w truth) (right_both input text formula f shaped reads w beside truth true_marks) x h

    both_cut_off : (fault : TimelineFault) (e : Refusal) → e ≡ of_timeline fault → FailsToShow o n (HasTrueMarks f w) fault → IsOutcome {T = T} (Ok (Timeline text (Some formula))) input o n (Err e)
    both_cut_off timeline_fault.CannotWrite e q (truth, true_marks, h) =
        subst (λ (x : Refusal). IsOutcome {T = T} (Ok (Timeline text (Some formula))) input o n (Err x)) (sym q)
        (some_printed input o open_before (Ok (Timeline text (Some formula))) n (timeline f w truth) (right_both input text formula f shaped reads w beside truth true_marks) h)
    both_cut_off timeline_fault.OutOfMemory e q h =
        subst (λ (s : SinkState). IsOutcome {T = T} (Ok (Timeline text (Some formula))) input o s (Err e)) (sym h)
        (nothing_printed input o open_before (Ok (Timeline text (Some formula))) e (inl (q, λ z. z)))

    pub both_ended : (s : Result T TimelineFault) (r : Result T Refusal) → MatchResult s (λ x. r ≡ Ok x) (λ fault. r ≡ Err (of_timeline fault)) → IsSent (HasTrueMarks f w) o n s → IsOutcome (Ok (Timeline text (Some formula))) input o n r
    both_ended (Ok x) r e h = subst (λ (y : Result T Refusal). IsOutcome (Ok (Timeline text (Some formula))) input o n y) (sym e) (both_printed x h)
    both_ended (Err fault) r e h = subst (λ (y : Result T Refusal). IsOutcome (Ok (Timeline text (Some formula))) input o n y) (sym e) (both_cut_off fault (of_timeline fault) refl h)
