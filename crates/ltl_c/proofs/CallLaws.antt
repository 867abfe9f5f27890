-- What a call hands over is what a run of the program shows.
use Rattle.std.proofs.Common.{◌≡◌, ◌∙◌, ◌⊎◌, ◌↔◌, ap, sym, subst, refl, inl, inr, Bool, true, false, ℕ, List, [], Option, Some, None, arith}
use Rattle.std.specs.Prelude.{Result, Ok, Err, IsTrue}
use Rattle.ltl_spec.specs.Checking.Check.{Verdict, Contained, Violated}
use Rattle.ltl_spec.specs.Hoa.HoaReading.{stated_form}
use Rattle.ltl_spec.specs.Tools.Limits.{stated_limits}
use Rattle.ltl_spec.specs.Tools.Refusal as spec
use Rattle.ltl_spec.specs.Tools.Refusal.{Tool, Translator, Checker, Evaluator, message, status_of}
use Rattle.ltl_spec.specs.Tools.Outcome.{Answer, Ended, Input, NotOpened, answer_by, printed, refused}
use Rattle.ltl_spec.specs.Tools.Programs.{EvaluatorFinds, EvaluatorPlan, TranslatorAnswers, TranslatorPlan, truth_answer, verdict_answer}
use Rattle.ltl_spec.specs.Tools.Run.{PlanOf, ToolAnswers}
use Rattle.ltl_spec.proofs.Tools.RunLaws.{promised_shown}
use Rattle.ltl_spec.proofs.Tools.StepLaws.{refusals_high, same_ok, then_ok}
use Rattle.ltl_cli.specs.declared.refusal.Refusal.{Refusal}
use Rattle.ltl_cli.specs.declared.refusal.Refusal.TheVariants.{OutOfMemory}
use Rattle.ltl_cli.specs.Refusals.{refusal_of}
use Rattle.ltl_c.specs.declared.refusal_code.RefusalCode.{RefusalCode}
use Rattle.ltl_c.specs.Calls.{Delivers, Ends, HandsOver, MayEnd, PrintsAsked, checker_asked, run_with, text_alone, truth_line, verdict_lines}
use Rattle.ltl_c.specs.Codes.{code_for}
use Rattle.ltl_c.specs.Verdicts.{FindsAsked, Saying, SaysVerdict, is_contained, said, verdict_status, word_text}
use Rattle.ltl_c.proofs.StepLaws.{Refuses}

module _ (tool : Tool) (plan : Option (PlanOf tool)) (file : Input) where
  abbrev Right : Answer → Type 0
  Right = ToolAnswers stated_limits stated_form tool plan NotOpened file

  -- a right answer with no message
  pub answer_ends : (a : Answer) → Right a → a.message ≡ [] → MayEnd tool plan file a.status a.output []
  answer_ends a right silent =
      promised_shown stated_limits stated_form (omega arith) tool plan NotOpened file (run_with a.status a.output []) (inl (a, right, (refl, refl, refl, inl (sym silent, refl))))

  -- a refusal
  pub refusal_ends : (e : Refusal) → (e ≡ OutOfMemory) ⊎ Right (refused stated_limits tool (refusal_of e)) → MayEnd tool plan file (status_of (refusal_of e)) [] (message stated_limits tool (refusal_of e))
  refusal_ends e (inl m) =
      promised_shown stated_limits stated_form (omega arith) tool plan NotOpened file (run_with (status_of (refusal_of e)) [] (message stated_limits tool (refusal_of e)))
      (inr (inl (ap (λ x. status_of (refusal_of x)) m, refl, ap (λ x. (run_with (status_of (refusal_of x)) [] []).output_stage) m, inl (ap (λ x. message stated_limits tool (refusal_of x)) m, refl))))
  refusal_ends e (inr right) =
      promised_shown stated_limits stated_form (omega arith) tool plan NotOpened file (run_with (status_of (refusal_of e)) [] (message stated_limits tool (refusal_of e)))
      (inl (refused stated_limits tool (refusal_of e), right, (refl, refl, refl, inl (refl, refl))))

  -- a refusal that is handed over with an empty text
  pub refusal_handed : (shown : ℕ → List ℕ → List ℕ) (e : Refusal) → shown (status_of (refusal_of e)) [] ≡ [] → (e ≡ OutOfMemory) ⊎ Right (refused stated_limits tool (refusal_of e))
      → (code : RefusalCode) → code ≡ code_for (Some (refusal_of e)) → (old new : List ℕ) (count status n : ℕ) → n ≡ status_of (refusal_of e) → Delivers n [] old new count status → HandsOver tool plan file shown code old new count status
  refusal_handed shown e empty right code some old new count status n q d = record {
    text = [];
    ended = n;
    reason = Some (refusal_of e);
    shown = subst (λ m. MayEnd tool plan file m (shown m []) (message stated_limits tool (refusal_of e))) (sym q)
        (subst (λ t. MayEnd tool plan file (status_of (refusal_of e)) t (message stated_limits tool (refusal_of e))) (sym empty) (refusal_ends e right));
    coded = some;
    delivered = d;
  }

-- ---- the translator

pub asked_answers : (plan : Option TranslatorPlan) (r : Result (List ℕ) spec.Refusal) → PrintsAsked plan r → TranslatorAnswers stated_limits plan NotOpened (answer_by stated_limits Translator (λ text. printed text 0) r)
asked_answers None r h = ap (answer_by stated_limits Translator (λ text. printed text 0)) h
asked_answers (Some p) r h = (r, h, refl)

module _ (plan : Option TranslatorPlan) (code : RefusalCode) (old new : List ℕ) (count status : ℕ) where
  pub text_handed : (text : List ℕ) → PrintsAsked plan (Ok text) → code ≡ code_for None → Delivers 0 text old new count status → HandsOver Translator plan NotOpened text_alone code old new count status
  text_handed text h none d = record {
    text = text;
    ended = 0;
    reason = None;
    shown = answer_ends Translator plan NotOpened (printed text 0) (asked_answers plan (Ok text) h) refl;
    coded = none;
    delivered = d;
  }

  translator_refuses : (e : Refusal) → Refuses (PrintsAsked plan) e → (e ≡ OutOfMemory) ⊎ TranslatorAnswers stated_limits plan NotOpened (refused stated_limits Translator (refusal_of e))
  translator_refuses e (inl m) = inl m
  translator_refuses e (inr h) = inr (asked_answers plan (Err (refusal_of e)) h)

  pub text_refused : (e : Refusal) → Refuses (PrintsAsked plan) e → code ≡ code_for (Some (refusal_of e)) → (n : ℕ) → n ≡ status_of (refusal_of e) → Delivers n [] old new count status → HandsOver Translator plan NotOpened text_alone code old new count status
  text_refused e h some n q d = refusal_handed Translator plan NotOpened text_alone e refl (translator_refuses e h) code some old new count status n q d

-- ---- the evaluator

-- a refusal has no such line
no_truth : (e : spec.Refusal) → truth_line (status_of e) ≡ []
no_truth spec.Usage = refl
no_truth spec.CannotOpen = refl
no_truth spec.CannotRead = refl
no_truth spec.CannotWrite = refl
no_truth spec.OutOfMemory = refl
no_truth spec.LongFormula = refl
no_truth spec.TooManyPropositions = refl
no_truth spec.TooManyRows = refl
no_truth spec.TooManyElementaryRows = refl
no_truth spec.LargeAutomaton = refl
no_truth spec.LongWord = refl
no_truth spec.LargeProduct = refl
no_truth (spec.BadFormula place kind) = refl
no_truth (spec.BadWord place) = refl
no_truth (spec.BadAutomaton number kind) = refl

module _ (p : EvaluatorPlan) (code : RefusalCode) where
  abbrev EndsWith : ℕ → Type 0
  EndsWith = Ends Evaluator (Some p) NotOpened truth_line code

  truth_ends : (b : Bool) → EvaluatorFinds stated_limits p NotOpened (Ok b) → code ≡ code_for None → EndsWith (truth_answer stated_limits b).status
  truth_ends true h none = record { reason = None; shown = answer_ends Evaluator (Some p) NotOpened (truth_answer stated_limits true) (Ok true, h, refl) refl; coded = none }
  truth_ends false h none = record { reason = None; shown = answer_ends Evaluator (Some p) NotOpened (truth_answer stated_limits false) (Ok false, h, refl) refl; coded = none }

  pub true_ends : (b : Bool) → EvaluatorFinds stated_limits p NotOpened (Ok b) → code ≡ code_for None → b ≡ true → EndsWith 0
  true_ends b h none e = truth_ends true (subst (λ (c : Bool). EvaluatorFinds stated_limits p NotOpened (Ok c)) e h) none

  pub false_ends : (b : Bool) → EvaluatorFinds stated_limits p NotOpened (Ok b) → code ≡ code_for None → b ≡ false → EndsWith 1
  false_ends b h none e = truth_ends false (subst (λ (c : Bool). EvaluatorFinds stated_limits p NotOpened (Ok c)) e h) none

  pub no_truth_ends : (e : Refusal) → Refuses (EvaluatorFinds stated_limits p NotOpened) e → code ≡ code_for (Some (refusal_of e)) → (n : ℕ) → n ≡ status_of (refusal_of e) → EndsWith n
  no_truth_ends e h some n q = subst EndsWith (sym q) (record {
    reason = Some (refusal_of e);
    shown = subst (λ t. MayEnd Evaluator (Some p) NotOpened (status_of (refusal_of e)) t (message stated_limits Evaluator (refusal_of e))) (sym (no_truth (refusal_of e)))
        (refusal_ends Evaluator (Some p) NotOpened e (refuses h));
    coded = some;
  })
    where
      refuses : Refuses (EvaluatorFinds stated_limits p NotOpened) e → (e ≡ OutOfMemory) ⊎ ToolAnswers stated_limits stated_form Evaluator (Some p) NotOpened NotOpened (refused stated_limits Evaluator (refusal_of e))
      refuses (inl m) = inl m
      refuses (inr k) = inr (Err (refusal_of e), k, refl)

-- a refusal's status isn't 0
pub refusal_not_zero : (e : spec.Refusal) (n : ℕ) → n ≡ status_of e → (IsTrue false) ↔ (n ≡ 0)
refusal_not_zero e n q = ((λ t. absurd (false_true t)), λ z. let high = refusals_high e in absurd (omega (arith, high, q, z)))
  where
    false_true : false ≡ true → ⊥
    false_true t = cc

-- ---- the checker

no_lines : (e : spec.Refusal) → verdict_lines (status_of e) [] ≡ []
no_lines spec.Usage = refl
no_lines spec.CannotOpen = refl
no_lines spec.CannotRead = refl
no_lines spec.CannotWrite = refl
no_lines spec.OutOfMemory = refl
no_lines spec.LongFormula = refl
no_lines spec.TooManyPropositions = refl
no_lines spec.TooManyRows = refl
no_lines spec.TooManyElementaryRows = refl
no_lines spec.LargeAutomaton = refl
no_lines spec.LongWord = refl
no_lines spec.LargeProduct = refl
no_lines (spec.BadFormula place kind) = refl
no_lines (spec.BadWord place) = refl
no_lines (spec.BadAutomaton number kind) = refl

module _ (text automaton : List ℕ) (code : RefusalCode) (old new : List ℕ) (count status : ℕ) where
  abbrev Hands : Type 0
  Hands = HandsOver Checker (Some (checker_asked text)) (Ended automaton) verdict_lines code old new count status

  handed : (v : Verdict) → FindsAsked text automaton (Ok v) → code ≡ code_for None → Delivers (verdict_status (is_contained v)) (word_text v) old new count status → Hands
  handed Contained h none d = record {
    text = [];
    ended = 0;
    reason = None;
    shown = answer_ends Checker (Some (checker_asked text)) (Ended automaton) (verdict_answer stated_limits Contained) (Ok Contained, h, refl) refl;
    coded = none;
    delivered = d;
  }
  handed (Violated w) h none d = record {
    text = word_text (Violated w);
    ended = 1;
    reason = None;
    shown = answer_ends Checker (Some (checker_asked text)) (Ended automaton) (verdict_answer stated_limits (Violated w)) (Ok (Violated w), h, refl) refl;
    coded = none;
    delivered = d;
  }

  pub verdict_handed : (contained : Bool) (word : List ℕ) → SaysVerdict text automaton (Ok (said contained word)) → code ≡ code_for None → (n : ℕ) → n ≡ verdict_status contained → Delivers n word old new count status → Hands
  verdict_handed contained word h none n q d =
      let (v, found, e) = then_ok (FindsAsked text automaton) (λ v r. r ≡ Ok (said (is_contained v) (word_text v))) (said contained word) h in
      let s = same_ok (said contained word) (said (is_contained v) (word_text v)) e in
      handed v found none (subst (λ (x : Saying). Delivers (verdict_status x.contained) x.text old new count status) s (subst (λ m. Delivers m word old new count status) q d))

  pub verdict_refused : (e : Refusal) → Refuses (SaysVerdict text automaton) e → code ≡ code_for (Some (refusal_of e)) → (n : ℕ) → n ≡ status_of (refusal_of e) → Delivers n [] old new count status → Hands
  verdict_refused e h some n q d = refusal_handed Checker (Some (checker_asked text)) (Ended automaton) verdict_lines e (no_lines (refusal_of e)) (refuses h) code some old new count status n q d
    where
      unsaid : (x : spec.Refusal) → SaysVerdict text automaton (Err x) → FindsAsked text automaton (Err x)
      unsaid x (inl (y, k, t)) = subst (λ (z : spec.Refusal). FindsAsked text automaton (Err z)) (same_err x y t) k
        where
          same_err : (x y : spec.Refusal) → ◌≡◌ {A = Result Saying spec.Refusal} (Err x) (Err y) → y ≡ x
          same_err x y t = cc
      unsaid x (inr (v, k, t)) = absurd (err_ok x (said (is_contained v) (word_text v)) t)
        where
          err_ok : (x : spec.Refusal) (s : Saying) → ◌≡◌ {A = Result Saying spec.Refusal} (Err x) (Ok s) → ⊥
          err_ok x s t = cc

      refuses : Refuses (SaysVerdict text automaton) e → (e ≡ OutOfMemory) ⊎ ToolAnswers stated_limits stated_form Checker (Some (checker_asked text)) NotOpened (Ended automaton) (refused stated_limits Checker (refusal_of e))
      refuses (inl m) = inl m
      refuses (inr k) = inr (Err (refusal_of e), unsaid (refusal_of e) k, refl)

pub refused_zero : (e : spec.Refusal) (n : ℕ) (old new : List ℕ) (count status : ℕ) → n ≡ status_of e → Delivers n [] old new count status → (IsTrue false) ↔ (status ≡ 0)
refused_zero e n old new count status q (c, inl (s, w)) = refusal_not_zero e status (s ∙ q)
refused_zero e n old new count status q (c, inr (s, l, w)) = absurd (let m = l in omega (arith, m))
