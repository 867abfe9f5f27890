-- What a run shows.
use Rattle.std.proofs.Common.{◌≡◌, ◌∙◌, ◌⊎◌, ◌^◌, ◌<◌, ◌≤◌, ◌+◌, sym, subst, refl, ap, arith, ℕ, Bool, true, false, inl, inr, List, [], length, take, Option, Some, None}
use Rattle.std.proofs.lemmas.List.{append-nil}
use Rattle.std.proofs.lemmas.Bool.Decides.{nat_tests}
use Rattle.std.specs.Prelude.{Result, Ok, Err, IfSome, IsErrOf, nat_lt, if◌then◌else◌}
use Rattle.std.specs.Io.KnownBytes.{Appends}
use Rattle.ltl_spec.specs.Tools.Stage.{Stage, Open, Closed, Broken}
use Rattle.ltl_spec.specs.Tools.Outcome as spec
use Rattle.ltl_spec.specs.Tools.Outcome.{Input, IsGiven, Seen, TellsMessage, printed, stage_behind}
use Rattle.ltl_spec.specs.Claims.ClaimProgram.{Program}
use Rattle.ltl_spec.specs.Claims.ClaimMachine.{claim_program}
use Rattle.ltl_streams.specs.Streams.{Breaks, SinkState, SourceState}
use Rattle.ltl_streams.specs.StageView.{stage_of}
use Rattle.ltl_streams.specs.declared.stage.Stage as stages
use Rattle.ltl_streams.specs.declared.stage.Stage.TheVariants as stage
use Rattle.ltl_words.specs.declared.request.PlanFault.{PlanFault}
use Rattle.ltl_words.specs.declared.request.PlanFault.TheVariants as words
use Rattle.ltl_claim.specs.ClaimFault as claim
use Rattle.ltl_claim.specs.ClaimAnswer.{claim_answer, most_bytes, place_of}
use Rattle.ltl_claim.specs.ClaimView.{ClaimView, IsClaim, IsFaultOf, Answers}
use Rattle.ltl_claim.specs.Reading.{AnswersHeld, LeavesStage, TakesFewer, TakesUpTo}
use Rattle.ltl_claim.specs.TokenView.{kind_of}
use Rattle.ltl_claim.specs.declared.fault.ClaimFault.{ClaimFault}
use Rattle.ltl_claim.specs.declared.fault.ClaimFault.TheVariants as fault
use Rattle.ltl_claim.specs.declared.fault.ClaimFaultKind as kinds
use Rattle.ltl_claim.proofs.AnswerLaws.{answered}
use Rattle.ltl_claim_hoa.specs.ClaimHoa.{claim_hoa_text}
use Rattle.ltl_claim_hoa.specs.ClaimReads.{KeepsWords}
use Rattle.ltl_claim_hoa.proofs.DocumentLaws.{text_keeps}
use Rattle.ltl_claim_hoa.proofs.SoundLaws.{read_sound}
use Rattle.ltl_cli.specs.Inputs.{BrokeBehind, WasStream, WentWell}
use Rattle.ltl_cli.specs.Runs.{Finishes, IsTold, Shows}
use Rattle.ltl_claims.specs.declared.refusal.Refusal as code
use Rattle.ltl_claims.specs.declared.refusal.Refusal.TheVariants as variant
use Rattle.ltl_claims.specs.Plans.{Request}
use Rattle.ltl_claims.specs.Refusals.{Refusal, Usage, BadClaim, CannotOpen, CannotRead, CannotWrite, OutOfMemory, claim_message, of_claim, of_plan, refusal_of, status_of}
use Rattle.ltl_claims.specs.Runs.{IsClaimRead, IsOutcome, IsTextOf, MayClaim, ClaimNeverShort, RefusesInput, TellsClaim, claim_answered, claim_refused, claim_text, answer_of, located, message_with, program_in, program_of, status_with}

-- ---- what was read

-- a fault of the text is the one that is located there
located_fault : (text : List ℕ) (r : Result Program claim.ClaimFault) (number column : ℕ) (kind : kinds.ClaimFaultKind) → IsFaultOf text r (fault.At number column kind) → located text r ≡ Err (BadClaim number column (kind_of kind))
located_fault text (Ok P) number column kind h = absurd h
located_fault text (Err f) number column kind (e, k) = λ i. Err (BadClaim (sym e i).0 (sym e i).1 (sym k i))

located_program : (text : List ℕ) (P : Program) (r : Result Program claim.ClaimFault) → r ≡ Ok P → located text r ≡ Ok P
located_program text P r e = ap (located text) e

-- a source that was read to its end, or up to the limit
ended_was : (old new : SourceState) (text : List ℕ) → IfSome old.rest (λ bytes. text ≡ bytes) → TakesUpTo old.rest new.rest → (new.stage ≡ Open) ⊎ (new.stage ≡ Closed) → WasStream (most_bytes + 1) old new (spec.Ended text)
ended_was old new text k b s = (k, record { taken = b; stage = s })

few_bytes : (n : ℕ) → n < most_bytes + 1 → nat_lt most_bytes n ≡ false
few_bytes n l = let m : n ≤ most_bytes = omega (arith, l) in grind (arith, nat_tests, m)

-- a read that failed
failed_refuses : (bytes : List ℕ) → length bytes < most_bytes + 1 → program_of (spec.Failed bytes) ≡ Err CannotRead
failed_refuses bytes l = ap (λ b. program_in (if b then Ok bytes else Err CannotRead)) (few_bytes (length bytes) l)

module _ (old new : SourceState) (r : Result ClaimView ClaimFault) (opened : old.stage ≡ Open) (held : AnswersHeld old.rest r) (failed : IsErrOf r fault.CannotRead → TakesFewer old.rest new.rest)
    (bounded : TakesUpTo old.rest new.rest) (stage : old.stage ≡ Open → LeavesStage r new.stage) where
  pub claim_was : (c : ClaimView) → r ≡ Ok c → (input : Input) × WasStream (most_bytes + 1) old new input × IsClaimRead input (Ok c)
  claim_was c e =
      let (text, k, a) = held in
      let (P, q, is) = subst (λ (x : Result ClaimView ClaimFault). Answers text x) e a in
      (spec.Ended text, ended_was old new text k bounded (inr (subst (λ (x : Result ClaimView ClaimFault). LeavesStage x new.stage) e (stage opened))), (P, located_program text P (claim_answer text) q, is, λ x. x))

  pub fault_was : (f : ClaimFault) → r ≡ Err f → (input : Input) × WasStream (most_bytes + 1) old new input × IsClaimRead input (Err (of_claim f))
  fault_was (fault.At number column kind) e =
      let (text, k, a) = held in
      let h = subst (λ (x : Result ClaimView ClaimFault). Answers text x) e a in
      let s = subst (λ (x : Result ClaimView ClaimFault). LeavesStage x new.stage) e (stage opened) in (
        spec.Ended text,
        ended_was old new text k bounded (elim s [ inl c ↦ inr c | inr o ↦ inl o.1 ]),
        inr (located_fault text (claim_answer text) number column kind h),
      )
  fault_was fault.OutOfMemory e =
      let (text, k, a) = held in
      let s = subst (λ (x : Result ClaimView ClaimFault). LeavesStage x new.stage) e (stage opened) in
      (spec.Ended text, ended_was old new text k bounded (elim s [ inl c ↦ inr c | inr o ↦ inl o ]), inl (refl, λ x. x))
  fault_was fault.CannotRead e =
      let (bytes, taken, few) = failed e in
      let s = subst (λ (x : Result ClaimView ClaimFault). LeavesStage x new.stage) e (stage opened) in
      (spec.Failed bytes, record { taken = taken; few = few; stage = s }, inr (failed_refuses bytes few))

-- ---- a text in memory, of which no read fails

broken_only : (s : stages.Stage) → stage_of s ≡ Broken → s ≡ stage.Broken
broken_only stage.Open e = cc
broken_only stage.Closed e = cc
broken_only stage.Broken e = refl
broken_only stage.Misused e = cc

module _ (text : List ℕ) (r : Result ClaimView ClaimFault) (held : AnswersHeld (Some text) r) where
  pub claim_told : (c : ClaimView) → r ≡ Ok c → IsClaimRead (spec.Ended text) (Ok c)
  claim_told c e =
      let (t, k, a) = held in
      let (P, q, is) = subst (λ (x : Result ClaimView ClaimFault). Answers t x) e a in
      subst (λ (x : List ℕ). IsClaimRead (spec.Ended x) (Ok c)) k (P, located_program t P (claim_answer t) q, is, λ x. x)

  pub fault_told : (f : ClaimFault) → r ≡ Err f → (s : stages.Stage) → LeavesStage r (stage_of s) → (s ≡ stage.Broken → ⊥) → IsClaimRead (spec.Ended text) (Err (of_claim f))
  fault_told (fault.At number column kind) e s l n =
      let (t, k, a) = held in
      let h = subst (λ (x : Result ClaimView ClaimFault). Answers t x) e a in
      subst (λ (x : List ℕ). IsClaimRead (spec.Ended x) (Err (variant.BadClaim number column kind))) k (inr (located_fault t (claim_answer t) number column kind h))
  fault_told fault.OutOfMemory e s l n = inl (refl, λ x. x)
  fault_told fault.CannotRead e s l n = absurd (n (broken_only s (subst (λ (x : Result ClaimView ClaimFault). LeavesStage x (stage_of s)) e l)))

-- ---- the text

text_program : (text : List ℕ) (P : Program) (r : Result Program claim.ClaimFault) → located text r ≡ Ok P → r ≡ Ok P
text_program text P (Ok Q) e = cc
text_program text P (Err f) e = cc

-- the text of a program that was read
pub program_text : (input : Input) (P : Program) → program_of input ≡ Ok P → (text : List ℕ) × (claim_text input ≡ Ok text) × (claim_program text ≡ Some P)
program_text input P e = go (claim_text input) refl e
  where
    go : (r : Result (List ℕ) Refusal) → claim_text input ≡ r → program_in r ≡ Ok P → (text : List ℕ) × (claim_text input ≡ Ok text) × (claim_program text ≡ Some P)
    go (Ok text) q e = (text, q, answered text P (text_program text P (claim_answer text) e))
    go (Err f) q e = cc

pub text_made : (input : Input) (c : ClaimView) (P : Program) (text : List ℕ) → program_of input ≡ Ok P → IsClaim P c → length c.states < 9_223_372_036_854_775_808 → length c.names < 18_446_744_073_709_551_616 → text ≡ claim_hoa_text P → IsTextOf input text
text_made input c P text e is few few_names t =
    let (source, q, r) = program_text input P e in
    record {
      program = P;
      read = e;
      text_is = t;
      keeps = subst (λ (x : List ℕ). KeepsWords x P) (sym t) (text_keeps P (read_sound source P r) (subst (λ n. n < 2 ^ 63) is.count (omega (arith, few))) (subst (λ (xs : List (List ℕ)). length xs < 2 ^ 64) is.names (omega (arith, few_names))));
    }

-- ---- outcomes

wrote_nothing : (o : Option (List ℕ)) → Appends o o []
wrote_nothing None = tt
wrote_nothing (Some x) = sym (append-nil x)

-- of a refusal the output is asked nothing
refusal_open : (e : Refusal) → stage_behind (status_of e) ≡ Open
refusal_open Usage = refl
refusal_open CannotOpen = refl
refusal_open CannotRead = refl
refusal_open CannotWrite = refl
refusal_open OutOfMemory = refl
refusal_open (BadClaim number column kind) = refl

not_zero : (e : Refusal) → status_of e ≡ 0 → ⊥
not_zero Usage q = omega (arith, q)
not_zero CannotOpen q = omega (arith, q)
not_zero CannotRead q = omega (arith, q)
not_zero CannotWrite q = omega (arith, q)
not_zero OutOfMemory q = omega (arith, q)
not_zero (BadClaim number column kind) q = omega (arith, q)

tells_nothing : (e : Refusal) (input : Input) (seen : Seen) → seen.status ≡ status_of e → TellsClaim input seen
tells_nothing e input seen s z = absurd (not_zero e (sym s ∙ z))

refusal_given : (e : Refusal) (seen : Seen) → seen.output ≡ [] → seen.output_stage ≡ Open → seen.status ≡ status_of e → TellsMessage (claim_message e) seen → IsGiven seen (claim_refused e)
refusal_given e seen o g s t = (s, o, g ∙ sym (refusal_open e), t)

-- ---- what may be shown

-- the right answer is the text
right : (input : Input) (request : Request) (text : List ℕ) → IsTextOf input text → claim_answered (Ok request) input ≡ printed text 0
right input request text made = ap answer_of made.read ∙ ap (λ t. printed t 0) (sym made.text_is)

pub text_shown : (request : Request) (input : Input) (text : List ℕ) → IsTextOf input text
    → (seen : Seen) → seen.output ≡ text → seen.output_stage ≡ Closed → seen.status ≡ 0 → TellsMessage [] seen → MayClaim (Ok request) input seen
text_shown request input text made seen u b s t = record {
  shown = inl (subst (IsGiven seen) (sym (right input request text made)) (s, u, b, t));
  tells = λ z. let (source, q, r) = program_text input made.program made.read in (source, made.program, q, r, subst (λ (t : List ℕ). KeepsWords t made.program) (sym u) made.keeps);
}

module _ (request : Result Request PlanFault) (input : Input) (seen : Seen) (w : seen.output ≡ []) (b : seen.output_stage ≡ Open) where
  right_shown : (e : Refusal) → claim_answered request input ≡ claim_refused e → seen.status ≡ status_of e → TellsMessage (claim_message e) seen → MayClaim request input seen
  right_shown e h s t = record { shown = inl (subst (IsGiven seen) (sym h) (refusal_given e seen w b s t)); tells = tells_nothing e input seen s }

  short_shown : ¬ (ClaimNeverShort request input) → seen.status ≡ status_of OutOfMemory → TellsMessage (claim_message OutOfMemory) seen → MayClaim request input seen
  short_shown n s t = record { shown = inr (inl (n, refusal_given OutOfMemory seen w b s t)); tells = tells_nothing OutOfMemory input seen s }

pub refusal_shown : (request : Request) (input : Input) (e : code.Refusal) → RefusesInput input e
    → (seen : Seen) → seen.output ≡ [] → seen.output_stage ≡ Open → seen.status ≡ status_of (refusal_of e) → TellsMessage (claim_message (refusal_of e)) seen → MayClaim (Ok request) input seen
refusal_shown request input e (inl (m, n)) seen w b s t =
    short_shown (Ok request) input seen w b n (s ∙ ap (λ x. status_of (refusal_of x)) m) (subst (λ (x : code.Refusal). TellsMessage (claim_message (refusal_of x)) seen) m t)
refusal_shown request input e (inr h) seen w b s t = right_shown (Ok request) input seen w b (refusal_of e) (ap answer_of h) s t

-- nothing is printed
refused_right : {T : Type 0} (request : Result Request PlanFault) (input : Input) (o : SinkState) (e : code.Refusal) → o.stage ≡ Open → claim_answered request input ≡ claim_refused (refusal_of e) → IsOutcome {T = T} request input o o (Err e)
refused_right request input o e g h = record {
  output = [];
  written = wrote_nothing o.bytes;
  same = refl;
  ends = λ seen w b s t. right_shown request input seen w (b ∙ g) (refusal_of e) h s t;
}

refused_short : {T : Type 0} (request : Result Request PlanFault) (input : Input) (o : SinkState) → o.stage ≡ Open → ¬ (ClaimNeverShort request input) → IsOutcome {T = T} request input o o (Err variant.OutOfMemory)
refused_short request input o g n = record {
  output = [];
  written = wrote_nothing o.bytes;
  same = refl;
  ends = λ seen w b s t. short_shown request input seen w (b ∙ g) n s t;
}

module _ {T : Type 0} (input : Input) (o : SinkState) (open_before : o.stage ≡ Open) where
  -- the claim was refused
  pub claim_refuses : (request : Request) (e : code.Refusal) → RefusesInput input e → IsOutcome {T = T} (Ok request) input o o (Err e)
  claim_refuses request e (inl (m, n)) = subst (λ (x : code.Refusal). IsOutcome {T = T} (Ok request) input o o (Err x)) (sym m) (refused_short (Ok request) input o open_before n)
  claim_refuses request e (inr h) = refused_right (Ok request) input o e open_before (ap answer_of h)

  -- so were the words
  pub words_refused : (request : Result Request PlanFault) (f : PlanFault) (e : code.Refusal) → request ≡ Err f → e ≡ of_plan f → IsOutcome {T = T} request input o o (Err e)
  words_refused request f e p q =
      subst (λ (x : Result Request PlanFault). IsOutcome {T = T} x input o o (Err e)) (sym p)
      (subst (λ (x : code.Refusal). IsOutcome {T = T} (Err f) input o o (Err x)) (sym q) (refused_right (Err f) input o (of_plan f) open_before refl))

  module _ (request : Request) (n : SinkState) (text : List ℕ) (made : IsTextOf input text) where
    -- the text went out whole
    pub all_printed : (x : T) → Finishes o n text → IsOutcome {T = T} (Ok request) input o n (Ok x)
    all_printed x w = record {
      output = text;
      written = w.grown;
      same = w.same;
      ends = λ seen u b s t. text_shown request input text made seen u (b ∙ w.stage open_before) s t;
    }

    -- a call on the output failed
    pub some_printed : Breaks o n text → IsOutcome {T = T} (Ok request) input o n (Err variant.CannotWrite)
    some_printed w = record {
      output = take w.count text;
      written = w.grown;
      same = w.same;
      ends = λ seen u b s t. record {
        shown = inr (inr (ap (λ (a : spec.Answer). a.message) (right input request text made), s, (w.count, u ∙ ap (λ (a : spec.Answer). take w.count a.output) (sym (right input request text made))), b ∙ w.stage open_before, t));
        tells = tells_nothing CannotWrite input seen s;
      };
    }

-- an outcome and its message
pub outcome_shows : {T : Type 0} (request : Result Request PlanFault) (input : Input) (o n mo mn : SinkState) (status : ℕ) (r : Result T code.Refusal) → IsOutcome request input o n r → status ≡ status_with r
    → mo.stage ≡ Open → IsTold mo mn (message_with r) → Shows (MayClaim request input) o n mo mn status
outcome_shows request input o n mo mn status r h s g (inl m) = record {
  output = h.output;
  message = message_with r;
  written = h.written;
  told = m.grown;
  promised = h.ends _ refl refl s (inl (refl, m.stage g));
}
outcome_shows request input o n mo mn status r h s g (inr (l, m)) = record {
  output = h.output;
  message = take m.count (message_with r);
  written = h.written;
  told = m.grown;
  promised = h.ends _ refl refl s (inr (l, (m.count, refl), m.stage g));
}
