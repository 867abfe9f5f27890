-- What a run shows.
use Rattle.std.proofs.Common.{◌≡◌, ◌∙◌, sym, subst, refl, ℕ, ◌≤◌, Bool, true, false, inl, inr, List, [], take, arith}
use Rattle.std.specs.Prelude.{Result, Ok, Err}
use Rattle.ltl_spec.specs.Automata.Automaton.{Automaton}
use Rattle.ltl_spec.specs.Semantics.Word.{Name}
use Rattle.ltl_spec.specs.Hoa.HoaPrinted.{marked_of}
use Rattle.ltl_spec.specs.Hoa.HoaReading.{MarkedAutomaton, stated_form}
use Rattle.ltl_spec.specs.Tools.Limits.{stated_limits}
use Rattle.ltl_spec.specs.Tools.Programs.{ReadsHoa}
use Rattle.ltl_spec.specs.Tools.Refusal as spec
use Rattle.ltl_spec.specs.Tools.Stage.{Open}
use Rattle.ltl_spec.specs.Tools.Outcome as outcome
use Rattle.ltl_spec.specs.Tools.Outcome.{Input, IsGiven, Seen, TellsMessage, printed, stage_behind}
use Rattle.ltl_spec.proofs.Tools.StepLaws.{automaton_in, refusals_high, same_ok, then_ok}
use Rattle.ltl_spec.specs.Claims.ClaimTokens.{HasNoPromelaWord}
use Rattle.ltl_automaton.specs.declared.fault.AutomatonFault.{AutomatonFault}
use Rattle.ltl_automaton.specs.declared.fault.AutomatonFault.TheVariants as automaton
use Rattle.ltl_models.specs.BaView.{IsBa}
use Rattle.ltl_streams.specs.Streams.{Breaks, SinkState}
use Rattle.ltl_text.specs.NamedClaim.{named_claim}
use Rattle.ltl_text.specs.NamedText.{named_text}
use Rattle.ltl_text.specs.ReadBack.{IsClaimOf, ReadsAtAnyLength}
use Rattle.ltl_reduce.specs.Buchi.{HasFewStates, HasLargeReduction, HasWordsOf}
use Rattle.ltl_reduce.specs.Reduced.{IsReduced}
use Rattle.ltl_words.specs.declared.request.PlanFault.{PlanFault}
use Rattle.ltl_cli.specs.declared.refusal.Refusal.{Refusal}
use Rattle.ltl_cli.specs.declared.refusal.Refusal.TheVariants.{CannotWrite, OutOfMemory}
use Rattle.ltl_cli.specs.Checks.{ReadsAutomaton}
use Rattle.ltl_cli.specs.Inputs.{IsFailed, RefusesUnless}
use Rattle.ltl_cli.specs.Refusals.{of_plan, of_translation, refusal_of}
use Rattle.ltl_cli.specs.Runs.{Finishes, IsTold, Shows}
use Rattle.ltl_cli.proofs.InputLaws.{not_at_fault}
use Rattle.ltl_cli.proofs.RunLaws.{refusal_open, wrote_nothing}
use Rattle.ltl_reduction.specs.Messages.{reduce_message}
use Rattle.ltl_reduction.specs.Plans.{Request}
use Rattle.ltl_reduction.specs.Runs.{IsClaimText, IsOutcome, IsReducedText, Makes, MayReduce, Prints, ReduceAnswers, ReduceNeverShort, Tells, TellsAsked, TellsClaim, TellsReduced, message_with, reduce_refused, status_with}

-- ---- inputs

failed_fault : (input : Input) → IsFailed input → outcome.IsAtFault input
failed_fault (outcome.Failed bs) f = f
failed_fault (outcome.Text bs) f = absurd f
failed_fault outcome.NotOpened f = absurd f
failed_fault (outcome.Ended bs) f = absurd f

-- where an automaton was read, no read failed
pub read_whole : (input : Input) (A : MarkedAutomaton) → ReadsAutomaton input (Ok A) → ¬ (IsFailed input)
read_whole input A h f =
    let (text, q, reads) = then_ok (λ r. r ≡ outcome.taken stated_limits.hoa_bytes input) (ReadsHoa stated_limits stated_form) A h in
    not_at_fault stated_limits.hoa_bytes text reads.within.bytes input q (failed_fault input f)

-- ---- texts

-- the automaton that was made, and its text with these names, which are those of the automaton that was read
pub text_made : (A : MarkedAutomaton) (made : Automaton) (names : List Name) → names ≡ A.names → ReadsAtAnyLength (named_text made names) (marked_of made names) → IsReduced A (marked_of made A.names)
    → IsReducedText A (named_text made A.names)
text_made A made names e reads reduced =
    record { made = made; text_is = refl; reads = subst (λ (ns : List Name). ReadsAtAnyLength (named_text made ns) (marked_of made ns)) e reads; reduced = reduced }

-- the Büchi automaton that was made, and its claim with these names, which are those of the automaton that was read
pub claim_made : (A : MarkedAutomaton) (made : Automaton) (names : List Name) → names ≡ A.names → IsBa made → HasWordsOf A made → HasFewStates A made
    → (HasNoPromelaWord names → IsClaimOf names made (named_claim made names)) → IsClaimText A (named_claim made A.names)
claim_made A made names e ba words few reads = record {
  made = made;
  text_is = refl;
  told = ba.no_sets;
  words = words;
  few = few;
  reads = λ free.
      let (P, q, same) = subst (λ (ns : List Name). HasNoPromelaWord ns → IsClaimOf ns made (named_claim made ns)) e reads free in
      (P, q, λ w l. let (to, from) = same w l in let (on, back) = words w l in ((λ h. back (to h)), λ h. from (on h)));
}

-- a text that was made for a request
pub reduced_makes : (b : Bool) (A : MarkedAutomaton) (text : List ℕ) → b ≡ false → IsReducedText A text → Makes b A (Ok text)
reduced_makes b A text e made = subst (λ (c : Bool). Makes c A (Ok text)) (sym e) (text, refl, made)

pub claim_makes : (b : Bool) (A : MarkedAutomaton) (text : List ℕ) → b ≡ true → IsClaimText A text → Makes b A (Ok text)
claim_makes b A text e made = subst (λ (c : Bool). Makes c A (Ok text)) (sym e) made

-- ---- refusals

refusal_given : (e : spec.Refusal) (seen : Seen) → seen.output ≡ [] → seen.output_stage ≡ Open → seen.status ≡ spec.status_of e → TellsMessage (reduce_message e) seen → IsGiven seen (reduce_refused e)
refusal_given e seen o g s t = (s, o, g ∙ sym (refusal_open e), t)

-- a status that isn't 0 says nothing
nothing_told : (request : Result Request PlanFault) (input : Input) (seen : Seen) → ¬ (seen.status ≡ 0) → Tells request input seen
nothing_told (Err e) input seen n = n
nothing_told (Ok request) input seen n = go request.claim
  where
    go : (claim : Bool) → TellsAsked claim input seen
    go true = λ z. absurd (n z)
    go false = λ z. absurd (n z)

-- nor does that of a refusal
pub refusal_tells : (e : spec.Refusal) (request : Result Request PlanFault) (input : Input) (seen : Seen) → seen.status ≡ spec.status_of e → Tells request input seen
refusal_tells e request input seen s = nothing_told request input seen (λ z. let high : 2 ≤ spec.status_of e = refusals_high e in omega (arith, high, s, z))

-- nothing is printed
refused_right : {T : Type 0} (request : Result Request PlanFault) (input : Input) (o : SinkState) (e : Refusal) → o.stage ≡ Open → ReduceAnswers request input (reduce_refused (refusal_of e)) → IsOutcome {T = T} request input o o (Err e)
refused_right request input o e g h = record {
  output = [];
  written = wrote_nothing o.bytes;
  same = refl;
  ends = λ seen w b s t. record {
    shown = inl (reduce_refused (refusal_of e), h, refusal_given (refusal_of e) seen w (b ∙ g) s t);
    tells = refusal_tells (refusal_of e) request input seen s;
  };
}

refused_short : {T : Type 0} (request : Result Request PlanFault) (input : Input) (o : SinkState) → o.stage ≡ Open → ¬ (ReduceNeverShort request input) → IsOutcome {T = T} request input o o (Err OutOfMemory)
refused_short request input o g n = record {
  output = [];
  written = wrote_nothing o.bytes;
  same = refl;
  ends = λ seen w b s t. record {
    shown = inr (inl (n, refusal_given spec.OutOfMemory seen w (b ∙ g) s t));
    tells = refusal_tells spec.OutOfMemory request input seen s;
  };
}

-- what was read of an input, and a text
module _ (input : Input) (A : MarkedAutomaton) (reads : ReadsAutomaton input (Ok A)) (text : List ℕ) where
  right : (request : Request) → Makes request.claim A (Ok text) → ReduceAnswers (Ok request) input (printed text 0)
  right request made = (Ok text, inr (A, reads, made), refl)

  -- what was read of the input and of the output
  pub reduced_told : IsReducedText A text → (seen : Seen) → seen.output ≡ text → TellsReduced input seen
  reduced_told made seen u z = (
    A,
    marked_of made.made A.names,
    automaton_in stated_limits stated_form input A reads,
    subst (λ (t : List ℕ). ReadsAtAnyLength t (marked_of made.made A.names)) (sym u) made.reads,
    made.reduced,
  )

  claim_told : IsClaimText A text → (seen : Seen) → seen.output ≡ text → TellsClaim input seen
  claim_told made seen u z = (A, automaton_in stated_limits stated_form input A reads, subst (λ (t : List ℕ). IsClaimText A t) (sym u) made)

  told : (claim : Bool) → Makes claim A (Ok text) → (seen : Seen) → seen.output ≡ text → TellsAsked claim input seen
  told true made = claim_told made
  told false (t, e, made) = reduced_told (subst (λ (x : List ℕ). IsReducedText A x) (sym (same_ok text t e)) made)

module _ {T : Type 0} (input : Input) (o : SinkState) (open_before : o.stage ≡ Open) where
  -- the automaton was refused
  pub automaton_refused : (request : Request) (e : Refusal) → RefusesUnless (IsFailed input) (ReadsAutomaton input) e → IsOutcome {T = T} (Ok request) input o o (Err e)
  automaton_refused request e (inl (m, n)) = subst (λ (x : Refusal). IsOutcome {T = T} (Ok request) input o o (Err x)) (sym m) (refused_short (Ok request) input o open_before n)
  automaton_refused request e (inr h) = refused_right (Ok request) input o e open_before (Err (refusal_of e), inl (refusal_of e, h, refl), refl)

  -- a claim was refused
  pub claim_refused : (request : Request) → request.claim ≡ true → (e : Refusal) → RefusesUnless (IsFailed input) (Prints true input) e → IsOutcome {T = T} (Ok request) input o o (Err e)
  claim_refused request q e (inl (m, n)) = automaton_refused request e (inl (m, n))
  claim_refused request q e (inr h) =
      refused_right (Ok request) input o e open_before (Err (refusal_of e), subst (λ (b : Bool). Prints b input (Err (refusal_of e))) (sym q) h, refl)

  -- so were the words
  pub words_refused : (request : Result Request PlanFault) (f : PlanFault) (e : Refusal) → request ≡ Err f → e ≡ of_plan f → IsOutcome {T = T} request input o o (Err e)
  words_refused request f e p q =
      subst (λ (x : Result Request PlanFault). IsOutcome {T = T} x input o o (Err e)) (sym p)
      (subst (λ (x : Refusal). IsOutcome {T = T} (Err f) input o o (Err x)) (sym q) (refused_right (Err f) input o (of_plan f) open_before refl))

  module _ (request : Request) (n : SinkState) (A : MarkedAutomaton) (reads : ReadsAutomaton input (Ok A)) (text : List ℕ) (made : Makes request.claim A (Ok text)) where
    -- the text went out whole
    pub all_printed : (x : T) → Finishes o n text → IsOutcome {T = T} (Ok request) input o n (Ok x)
    all_printed x w = record {
      output = text;
      written = w.grown;
      same = w.same;
      ends = λ seen u b s t. record { shown = inl (printed text 0, right input A reads text request made, (s, u, b ∙ w.stage open_before, t)); tells = told input A reads text request.claim made seen u };
    }

    -- a call on the output failed
    pub some_printed : Breaks o n text → IsOutcome {T = T} (Ok request) input o n (Err CannotWrite)
    some_printed w = record {
      output = take w.count text;
      written = w.grown;
      same = w.same;
      ends = λ seen u b s t. record {
        shown = inr (inr (printed text 0, right input A reads text request made, refl, s, (w.count, u), b ∙ w.stage open_before, t));
        tells = refusal_tells spec.CannotWrite (Ok request) input seen s;
      };
    }

-- an automaton that wasn't read has no claim
pub claim_unread : (input : Input) (e : Refusal) → RefusesUnless (IsFailed input) (ReadsAutomaton input) e → RefusesUnless (IsFailed input) (Prints true input) e
claim_unread input e (inl h) = inl h
claim_unread input e (inr h) = inr (inl (refusal_of e, h, refl))

-- nor has one whose Büchi automaton is too large, or needs more memory
pub claim_unmade : (input : Input) (A : MarkedAutomaton) → ReadsAutomaton input (Ok A) → (f : AutomatonFault) → (f ≡ automaton.TooLarge → HasLargeReduction A)
    → RefusesUnless (IsFailed input) (Prints true input) (of_translation f)
claim_unmade input A reads automaton.TooLarge large = inr (inr (A, reads, (refl, large refl)))
claim_unmade input A reads automaton.OutOfMemory large = inl (refl, read_whole input A reads)

-- an outcome and its message
pub outcome_shows : {T : Type 0} (request : Result Request PlanFault) (input : Input) (o n mo mn : SinkState) (status : ℕ) (r : Result T Refusal) → IsOutcome request input o n r → status ≡ status_with r
    → mo.stage ≡ Open → IsTold mo mn (message_with r) → Shows (MayReduce request input) o n mo mn status
outcome_shows request input o n mo mn status r h s g (inl m) = record {
  output = h.output;
  message = message_with r;
  written = h.written;
  told = m.grown;
  promised = h.ends _ refl refl s (inl (refl, m.stage g));
}
outcome_shows request input o n mo mn status r h s g (inr (l, m)) = record {
  output = h.output;
  message = take m.count (message_with r);
  written = h.written;
  told = m.grown;
  promised = h.ends _ refl refl s (inr (l, (m.count, refl), m.stage g));
}
