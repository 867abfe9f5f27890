-- What a run shows.
use Rattle.std.proofs.Common.{◌≡◌, ◌∙◌, ◌⊎◌, sym, subst, refl, ℕ, inl, inr, List, [], take, Option, Some, None}
use Rattle.std.proofs.lemmas.List.{append-nil}
use Rattle.std.specs.Prelude.{Result, Ok, Err}
use Rattle.std.specs.Io.KnownBytes.{Appends}
use Rattle.clap.specs.Words.{Text}
use Rattle.ltl_spec.specs.Tools.Refusal as spec
use Rattle.ltl_spec.specs.Tools.Stage.{Open}
use Rattle.ltl_spec.specs.Tools.Outcome.{Input, IsGiven, Seen, TellsMessage, printed, stage_behind}
use Rattle.ltl_streams.specs.Streams.{Breaks, SinkState}
use Rattle.ltl_words.specs.declared.request.PlanFault.{PlanFault}
use Rattle.ltl_cli.specs.declared.refusal.Refusal.{Refusal}
use Rattle.ltl_cli.specs.declared.refusal.Refusal.TheVariants.{OutOfMemory, CannotWrite}
use Rattle.ltl_cli.specs.Inputs.{IsFailed, RefusesUnless}
use Rattle.ltl_cli.specs.Refusals.{of_plan, refusal_of}
use Rattle.ltl_cli.specs.Runs.{Finishes, IsTold, Shows}
use Rattle.ltl_pictures.specs.DotText.{dot_text}
use Rattle.ltl_pictures.specs.NamedAutomaton.{NamedAutomaton}
use Rattle.ltl_draw.specs.Messages.{draw_message}
use Rattle.ltl_draw.specs.Plans.{Picture, Request}
use Rattle.ltl_draw.specs.Runs.{DrawAnswers, DrawNeverShort, IsOutcome, MayDraw, ReadsNamed, draw_refused, message_with, status_with}

wrote_nothing : (o : Option (List ℕ)) → Appends o o []
wrote_nothing None = tt
wrote_nothing (Some x) = sym (append-nil x)

-- of a refusal the output is asked nothing
refusal_open : (e : spec.Refusal) → stage_behind (spec.status_of e) ≡ Open
refusal_open spec.Usage = refl
refusal_open spec.CannotOpen = refl
refusal_open spec.CannotRead = refl
refusal_open spec.CannotWrite = refl
refusal_open spec.OutOfMemory = refl
refusal_open spec.LongFormula = refl
refusal_open spec.TooManyPropositions = refl
refusal_open spec.TooManyRows = refl
refusal_open spec.TooManyElementaryRows = refl
refusal_open spec.LargeAutomaton = refl
refusal_open spec.LongWord = refl
refusal_open spec.LargeProduct = refl
refusal_open (spec.BadFormula place kind) = refl
refusal_open (spec.BadWord place) = refl
refusal_open (spec.BadAutomaton number kind) = refl

refusal_given : (e : spec.Refusal) (seen : Seen) → seen.output ≡ [] → seen.output_stage ≡ Open → seen.status ≡ spec.status_of e → TellsMessage (draw_message e) seen → IsGiven seen (draw_refused e)
refusal_given e seen o g s t = (s, o, g ∙ sym (refusal_open e), t)

-- nothing is printed
refused_right : {T : Type 0} (request : Result Request PlanFault) (input : Input) (o : SinkState) (e : Refusal) → o.stage ≡ Open → DrawAnswers request input (draw_refused (refusal_of e)) → IsOutcome {T = T} request input o o (Err e)
refused_right request input o e g h = record {
  output = [];
  written = wrote_nothing o.bytes;
  same = refl;
  ends = λ seen w b s t. inl (draw_refused (refusal_of e), h, refusal_given (refusal_of e) seen w (b ∙ g) s t);
}

refused_short : {T : Type 0} (request : Result Request PlanFault) (input : Input) (o : SinkState) → o.stage ≡ Open → ¬ (DrawNeverShort request input) → IsOutcome {T = T} request input o o (Err OutOfMemory)
refused_short request input o g n = record {
  output = [];
  written = wrote_nothing o.bytes;
  same = refl;
  ends = λ seen w b s t. inr (inl (n, refusal_given spec.OutOfMemory seen w (b ∙ g) s t));
}

right_picture : (input : Input) (file : Option Text) (N : NamedAutomaton) → ReadsNamed input (Ok N) → DrawAnswers (Ok (Picture file)) input (printed (dot_text N) 0)
right_picture input file N reads = (Ok (dot_text N), inr (N, reads, refl), refl)

module _ {T : Type 0} (input : Input) (o : SinkState) (open_before : o.stage ≡ Open) where
  -- memory was refused, or the definitions refuse what was asked for
  pub nothing_printed : (request : Result Request PlanFault) (e : Refusal) → (e ≡ OutOfMemory) × ¬ (DrawNeverShort request input) ⊎ DrawAnswers request input (draw_refused (refusal_of e)) → IsOutcome {T = T} request input o o (Err e)
  nothing_printed request e (inl (m, n)) = subst (λ (x : Refusal). IsOutcome {T = T} request input o o (Err x)) (sym m) (refused_short request input o open_before n)
  nothing_printed request e (inr h) = refused_right request input o e open_before h

  -- the automaton was refused
  pub named_refused : (file : Option Text) (e : Refusal) → RefusesUnless (IsFailed input) (ReadsNamed input) e → IsOutcome {T = T} (Ok (Picture file)) input o o (Err e)
  named_refused file e (inl m) = nothing_printed (Ok (Picture file)) e (inl m)
  named_refused file e (inr h) = nothing_printed (Ok (Picture file)) e (inr (Err (refusal_of e), inl (refusal_of e, h, refl), refl))

  -- so were the words
  pub words_refused : (request : Result Request PlanFault) (f : PlanFault) (e : Refusal) → request ≡ Err f → e ≡ of_plan f → IsOutcome {T = T} request input o o (Err e)
  words_refused request f e p q =
      subst (λ (x : Result Request PlanFault). IsOutcome {T = T} x input o o (Err e)) (sym p)
      (subst (λ (x : Refusal). IsOutcome {T = T} (Err f) input o o (Err x)) (sym q) (refused_right (Err f) input o (of_plan f) open_before refl))

  module _ (request : Result Request PlanFault) (n : SinkState) (text : List ℕ) (right : DrawAnswers request input (printed text 0)) where
    -- a right text went out whole
    pub all_printed : (x : T) → Finishes o n text → IsOutcome {T = T} request input o n (Ok x)
    all_printed x w = record {
      output = text;
      written = w.grown;
      same = w.same;
      ends = λ seen u b s t. inl (printed text 0, right, (s, u, b ∙ w.stage open_before, t));
    }

    -- a call on the output failed
    pub some_printed : Breaks o n text → IsOutcome {T = T} request input o n (Err CannotWrite)
    some_printed w = record {
      output = take w.count text;
      written = w.grown;
      same = w.same;
      ends = λ seen u b s t. inr (inr (printed text 0, right, refl, s, (w.count, u), b ∙ w.stage open_before, t));
    }

  module _ (file : Option Text) (n : SinkState) (N : NamedAutomaton) (reads : ReadsNamed input (Ok N)) where
    -- it was drawn
    pub drawn : (x : T) → Finishes o n (dot_text N) → IsOutcome {T = T} (Ok (Picture file)) input o n (Ok x)
    drawn x w = all_printed (Ok (Picture file)) n (dot_text N) (right_picture input file N reads) x w

    pub cut_off : Breaks o n (dot_text N) → IsOutcome {T = T} (Ok (Picture file)) input o n (Err CannotWrite)
    cut_off w = some_printed (Ok (Picture file)) n (dot_text N) (right_picture input file N reads) w

-- an outcome and its message
pub outcome_shows : {T : Type 0} (request : Result Request PlanFault) (input : Input) (o n mo mn : SinkState) (status : ℕ) (r : Result T Refusal) → IsOutcome request input o n r → status ≡ status_with r
    → mo.stage ≡ Open → IsTold mo mn (message_with r) → Shows (MayDraw request input) o n mo mn status
outcome_shows request input o n mo mn status r h s g (inl m) = record {
  output = h.output;
  message = message_with r;
  written = h.written;
  told = m.grown;
  promised = h.ends _ refl refl s (inl (refl, m.stage g));
}
outcome_shows request input o n mo mn status r h s g (inr (l, m)) = record {
  output = h.output;
  message = take m.count (message_with r);
  written = h.written;
  told = m.grown;
  promised = h.ends _ refl refl s (inr (l, (m.count, refl), m.stage g));
}
